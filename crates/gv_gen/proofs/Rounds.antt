-- One round of a script, and the end.
use Rattle.std.proofs.Common.{◌≡◌, ℕ, zero, suc, ◌-◌, ◌<◌, [], ◌∷◌, ◌++◌, refl, ap, sym, arith}
use Rattle.gv_text.specs.declared.script_line.Line.TheVariants as lines
use Rattle.gv_gen.specs.Draw.{draw_at, state_after}
use Rattle.gv_gen.specs.Script.{rounds_from, round_lines}

pub rounds_from-none : (n x : ℕ) → n ≡ 0 → rounds_from n x ≡ lines.End ∷ []
unfolding rounds_from
rounds_from-none zero x none = refl
rounds_from-none (suc n) x none = absurd (omega arith)

pub rounds_from-more : (n x : ℕ) → 0 < n → rounds_from n x ≡ round_lines (draw_at x) ++ rounds_from (n - 1) (state_after x)
unfolding rounds_from
rounds_from-more zero x some = absurd (omega arith)
rounds_from-more (suc n) x some = let left : suc n - 1 ≡ n = omega arith in ap (λ k. round_lines (draw_at x) ++ rounds_from k (state_after x)) (sym left)
