use Rattle.std.proofs.Common.{ltb, is_some, sym, ap, ◌∙◌}
use Rattle.std.proofs.lemmas.Bool.{ltb-true, and_parts, false≢true}
use Rattle.gv_sppgtt.specs.Sound.{page_of_node}
use Rattle.gv_sppgtt.specs.State.{pages_of}
use Rattle.gv_nodes.proofs.NodeOf.{node_of-is}
use Rattle.gv_sppgtt.proofs.NodePairs.{key-absent}
use Rattle.gv_sppgtt.proofs.Serving.{is-root}
use Rattle.gv_sppgtt.proofs.tables.Tables.shadow_root.Goals as goal

pub find-requires-clause-frame : goal.find-requires-clause-frame
find-requires-clause-frame c =
    let t = c.args.self.now in
    ltb-true c.args.root t.nodes.frames (and_parts (ltb c.args.root t.nodes.frames) (is_some (pages_of t 4 c.args.root)) (sym (is-root t c.args.root) ∙ c.requires)).0

pub unreachable-requires : goal.unreachable-requires
unreachable-requires c =
    let t = c.args.self.now in
    let there = (and_parts (ltb c.args.root t.nodes.frames) (is_some (pages_of t 4 c.args.root)) (sym (is-root t c.args.root) ∙ c.requires)).1 in
    false≢true (sym (ap is_some (key-absent t.nodes 4 c.args.root c.in_default.ensures.none)) ∙ there)

pub returns : goal.returns
returns c =
    let k = c.in-Some.ensures.found in
    ap page_of_node (node_of-is c.args.self.now.nodes 4 c.args.root c.in-Some.ensures.nodes c.in-Some.key k.node k.under k.at_level k.of_frame ∙ sym k.under ∙ c.node.ensures.node)
