use Rattle.std.proofs.Common.{ℕ, ◌+◌, set, None, sym, subst}
use Rattle.gv_nodes.specs.Keys.{AreKeys}
use Rattle.gv_nodes.specs.NodeMap.{NodeMap, ChangesNode}
use Rattle.gv_nodes.proofs.Lookups.{changes-removed}
use Rattle.gv_nodes.proofs.Positions.{contains, view-removed, are_nodes, keys-take}
use Rattle.gv_nodes.proofs.nodes.Nodes.remove.Goals as goal

pub remove-node-requires : goal.remove-node-requires
remove-node-requires c = contains c.self.inside c.args.self.now c.self.view_is c.args.key c.requires.node

pub invariant_of-self : goal.invariant_of-self
invariant_of-self c =
    subst (λ (position : ℕ). AreKeys (set c.self.inside.keys.items position None) c.remove-node.new.self c.self.inside.frames (c.self.inside.spare + 1)) (sym c.position.ensures)
    (keys-take c.self.inside.keys.items c.self.inside.tables c.remove-node.new.self c.self.inside.frames c.self.inside.spare c.self.invariant c.args.key c.remove-node.result
    c.remove-node.ensures.value c.remove-node.ensures.updates c.remove-node.ensures.len c.remove-node.ensures.capacity)

pub returns-clause-after : goal.returns-clause-after
returns-clause-after c = view-removed c.self.inside c.args.self.now c.self.view_is c.remove-node.new.self c.args.key c.remove-node.ensures.updates

pub returns-clause-nodes : goal.returns-clause-nodes
returns-clause-nodes c =
    are_nodes (set c.self.inside.keys.items c.position.result None) c.remove-node.new.self c.self.inside.frames (c.self.inside.spare + 1) (invariant_of-self c)

pub returns-clause-changes : goal.returns-clause-changes
returns-clause-changes c =
    subst (λ (m : NodeMap). ChangesNode c.args.self.now m c.args.key None) (sym (returns-clause-after c)) (changes-removed c.args.self.now c.args.key)
