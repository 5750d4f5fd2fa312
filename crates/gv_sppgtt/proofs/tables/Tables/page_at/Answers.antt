use Rattle.std.proofs.Common.{◌≡◌, Some, sym, ap, ◌∙◌}
use Rattle.gv_sppgtt.specs.Sound.{page_of_node}
use Rattle.gv_sppgtt.proofs.NodePairs.{key-absent}
use Rattle.gv_nodes.proofs.NodeOf.{node_of-is}
use Rattle.gv_sppgtt.proofs.tables.Tables.page_at.Goals as goal

pub returns-in_err-key-clause-none : goal.returns-in_err-key-clause-none
returns-in_err-key-clause-none c = rw c.from_residual.ensures (key-absent c.args.self.now.nodes c.args.level c.args.frame c.in_err-key.ensures.none)

pub returns-clause-some : goal.returns-clause-some
returns-clause-some c =
    let k = c.in_ok-key.ensures.found in
    let same : Some k.node ≡ Some c.node.result = sym k.under ∙ c.node.ensures.node in
    ap page_of_node (node_of-is c.args.self.now.nodes c.args.level c.args.frame c.requires.nodes c.in_ok-key.key k.node k.under k.at_level k.of_frame ∙ same)
