use Rattle.std.proofs.Common.{ℕ, ◌-◌, set, Some, sym, subst, ◌∙◌, arith}
use Rattle.gv_nodes.specs.NodeMap.{NodeMap, new_node, ChangesNode}
use Rattle.gv_nodes.specs.Keys.{AreKeys}
use Rattle.gv_nodes.proofs.Lookups.{changes-inserted}
use Rattle.gv_nodes.proofs.Positions.{under, view-inserted, are_nodes, keys-put, free_now, frame_within, spare_is}
use Rattle.gv_nodes.proofs.nodes.Nodes.insert.Goals as goal

pub invariant_of-self : goal.invariant_of-self
invariant_of-self c =
    let node = new_node c.args.frame c.args.level c.args.page in
    let spare = spare_is c.self.inside c.args.self.now c.self.view_is in
    let room = c.requires.room in
    subst (λ (position : ℕ). AreKeys (set c.self.inside.keys.items position (Some c.insert_reserved-key.result)) c.insert_reserved-key.new.self c.self.inside.frames (c.self.inside.spare - 1)) (sym c.position.ensures)
    (keys-put c.self.inside.keys.items c.self.inside.tables c.insert_reserved-key.new.self c.self.inside.frames c.self.inside.spare c.self.invariant c.insert_reserved-key.result node
    record { frame = frame_within c.self.inside c.args.self.now c.self.view_is c.args.frame c.requires.frame; low = c.requires.low; high = c.requires.high }
    (free_now c.self.inside c.args.self.now c.self.view_is c.self.invariant c.args.frame c.args.level c.position.result c.requires.frame c.requires.low c.requires.high c.position.ensures c.requires.absent)
    c.insert_reserved-key.ensures.was_vacant c.insert_reserved-key.ensures.updates c.insert_reserved-key.ensures.len c.insert_reserved-key.ensures.capacity (omega arith))

pub returns-clause-fresh : goal.returns-clause-fresh
returns-clause-fresh c = under c.self.inside c.args.self.now c.self.view_is c.insert_reserved-key.result ∙ c.insert_reserved-key.ensures.was_vacant

pub returns-clause-after : goal.returns-clause-after
returns-clause-after c =
    view-inserted c.self.inside c.args.self.now c.self.view_is c.insert_reserved-key.new.self c.insert_reserved-key.result (new_node c.args.frame c.args.level c.args.page) c.insert_reserved-key.ensures.updates

pub returns-clause-nodes : goal.returns-clause-nodes
returns-clause-nodes c =
    are_nodes (set c.self.inside.keys.items c.position.result (Some c.insert_reserved-key.result)) c.insert_reserved-key.new.self c.self.inside.frames (c.self.inside.spare - 1) (invariant_of-self c)

pub returns-clause-changes : goal.returns-clause-changes
returns-clause-changes c =
    let node = new_node c.args.frame c.args.level c.args.page in
    subst (λ (m : NodeMap). ChangesNode c.args.self.now m c.insert_reserved-key.result (Some node)) (sym (returns-clause-after c))
    (changes-inserted c.args.self.now c.insert_reserved-key.result node)
