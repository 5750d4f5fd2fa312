use Rattle.std.proofs.Common.{ℕ, ◌+◌, ap, sym, subst, ◌∙◌, arith}
use Rattle.gv_nodes.specs.NodeMap.{NodeMap, parents_of, recounted, node_at, with_parents, ChangesNode}
use Rattle.slab.specs.Slab.{with_value}
use Rattle.gv_nodes.proofs.Lookups.{changes-with_parents}
use Rattle.gv_nodes.proofs.Positions.{contains, parents_now, are_nodes, keys-parents, view-parents}
use Rattle.gv_nodes.proofs.nodes.Nodes.add_parent.Goals as goal

pub index_mut-node-requires : goal.index_mut-node-requires
index_mut-node-requires c = contains c.self.inside c.args.self.now c.self.view_is c.args.key c.requires.node

pub overflow_add-node : goal.overflow_add-node
overflow_add-node c =
    let room = c.requires.room in
    let count = parents_now c.self.inside c.args.self.now c.self.view_is c.args.key c.index_mut-node.result.now c.index_mut-node.ensures.value in
    omega arith

pub invariant_of-self : goal.invariant_of-self
invariant_of-self c =
    let node = c.index_mut-node.result.now in
    keys-parents c.self.inside c.args.self.now c.self.view_is c.args.key node (node.parents + 1) c.index_mut-node.ensures.value c.self.invariant

pub returns-clause-after : goal.returns-clause-after
returns-clause-after c =
    let node = c.index_mut-node.result.now in
    view-parents c.self.inside c.args.self.now c.self.view_is c.args.key node (node.parents + 1) c.index_mut-node.ensures.value
    ∙ ap (λ (count : ℕ). with_parents c.args.self.now c.args.key (count + 1)) (sym (parents_now c.self.inside c.args.self.now c.self.view_is c.args.key node c.index_mut-node.ensures.value))

pub returns-clause-changes : goal.returns-clause-changes
returns-clause-changes c =
    let count = parents_of c.args.self.now c.args.key + 1 in
    subst (λ (m : NodeMap). ChangesNode c.args.self.now m c.args.key (recounted (node_at c.args.self.now c.args.key) count)) (sym (returns-clause-after c))
    (changes-with_parents c.args.self.now c.args.key count)

pub returns-clause-nodes : goal.returns-clause-nodes
returns-clause-nodes c =
    let node = c.index_mut-node.result.now in
    are_nodes c.self.inside.keys.items (with_value c.self.inside.tables c.args.key (record node { parents = node.parents + 1 })) c.self.inside.frames c.self.inside.spare (invariant_of-self c)
