use Rattle.std.proofs.Common.{◌∷◌, ◌++◌, ap, ◌∙◌, sym, arith, codes, map, take, get_or}
use Rattle.std.proofs.lemmas.List.{map_more}
use Rattle.std.specs.List.{join_with_byte}
use Rattle.gv_text.specs.Report.{hex}
use Rattle.gv_text.proofs.Joined.{join_with_byte-push}
use Rattle.gv_text.proofs.printing.turns.Goals as goal

pub loop-count-preserved : goal.loop-count-preserved
loop-count-preserved c =
    let guest = hex c.args.guest.0 in
    let engine = hex c.args.engine.0 in
    let counts = c.args.counts.now in
    let i = c.loop-count.count-index in
    let count = hex (get_or counts i 0) in
    record {
      text =
          c.number_u32.ensures.value
          ∙ ap (λ text. text ++ 32 ∷ count) c.loop-count.invariant.text
          ∙ sym (join_with_byte-push 32 guest (codes "turn" ∷ engine ∷ map hex (take i counts)) count)
          ∙ ap (λ ws. join_with_byte 32 (guest ∷ codes "turn" ∷ engine ∷ ws)) (sym (map_more hex counts i 0 (omega arith)));
      short = omega (arith, c.number_u32.ensures.len, c.loop-count.invariant.short);
    }
