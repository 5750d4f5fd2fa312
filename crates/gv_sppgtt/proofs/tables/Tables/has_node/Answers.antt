use Rattle.std.proofs.Common.{is_some, sym, ap}
use Rattle.gv_sppgtt.specs.Sound.{page_of_node}
use Rattle.gv_nodes.proofs.NodeOf.{node_of-is}
use Rattle.gv_sppgtt.proofs.NodePairs.{key-absent}
use Rattle.gv_sppgtt.proofs.tables.Tables.has_node.Goals as goal

pub returns-in-Some : goal.returns-in-Some
returns-in-Some c =
    let k = c.in-Some.ensures.found in
    sym (ap (λ o. is_some (page_of_node o)) (node_of-is c.args.self.now.nodes c.args.level c.args.frame c.in-Some.ensures.nodes _ k.node k.under k.at_level k.of_frame))

pub returns-in-None : goal.returns-in-None
returns-in-None c = sym (ap is_some (key-absent c.args.self.now.nodes c.args.level c.args.frame c.in-None.ensures.none))
