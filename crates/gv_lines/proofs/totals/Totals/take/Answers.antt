use Rattle.std.proofs.Common.{◌≤◌, ◌<◌, ◌+◌, drop, length, arith, sym, ap, ◌∙◌}
use Rattle.std.proofs.lemmas.List.{at_drop_more, at_drop_all}
use Rattle.gv_lines.specs.Summary.{totals_after}
use Rattle.gv_lines.proofs.totals.Totals.take.Goals as goal

pub loop-byte-preserved : goal.loop-byte-preserved
loop-byte-preserved c =
    let bytes = c.args.bytes.now in
    let i = c.loop-byte.byte-index in
    let there : i < length bytes = omega arith in
    ap (λ t. totals_after t (drop (i + 1) bytes)) c.add.ensures ∙ sym (at_drop_more (totals_after c.loop-byte.self) bytes i 0 there) ∙ c.loop-byte.invariant

pub returns : goal.returns
returns c =
    let past : length c.args.bytes.now ≤ c.loop-byte.byte-index = omega arith in
    sym (at_drop_all (totals_after c.loop-byte.self) c.args.bytes.now c.loop-byte.byte-index past) ∙ c.loop-byte.invariant
