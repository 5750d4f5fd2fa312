use Rattle.std.proofs.Common.{◌≡◌, Some, ltb, sym, ap, ◌∙◌}
use Rattle.gv_sppgtt.specs.Sound.{parents_of_node}
use Rattle.gv_nodes.proofs.NodeOf.{node_of-is}
use Rattle.gv_sppgtt.proofs.NodePairs.{key-absent, none-parents}
use Rattle.gv_sppgtt.proofs.tables.Tables.has_parent.Goals as goal

pub returns-in-Some : goal.returns-in-Some
returns-in-Some c =
    let k = c.in-Some.ensures.found in
    let same : Some k.node ≡ Some c.node.result = sym k.under ∙ c.node.ensures.node in
    sym (ap (λ o. ltb 0 (parents_of_node o)) (node_of-is c.args.self.now.nodes c.args.level c.args.frame c.requires.nodes c.in-Some.key k.node k.under k.at_level k.of_frame ∙ same))

pub returns-in-None : goal.returns-in-None
returns-in-None c =
    let s = c.args.self.now.nodes in
    sym (ap (ltb 0) (none-parents s c.args.level c.args.frame (key-absent s c.args.level c.args.frame c.in-None.ensures.none)))
