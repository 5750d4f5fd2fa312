use Rattle.std.proofs.Common.{◌≡◌, ◌≤◌, ◌+◌, ◌*◌, ◌∷◌, length, map, take, codes}
use Rattle.std.specs.List.{join_with_byte}
use Rattle.gv_text.specs.Report.{hex}
use Rattle.gv_text.proofs.printing.turns.Given as goal

abbrev pub invariant-loop-count : goal.invariant-loop-count
invariant-loop-count l = record {
  text : l.text ≡ join_with_byte 32 (hex l.fn.guest.0 ∷ codes "turn" ∷ hex l.fn.engine.0 ∷ map hex (take l.count-index l.counts));
  short : length l.text ≤ 8 + 9 * l.count-index;
}
