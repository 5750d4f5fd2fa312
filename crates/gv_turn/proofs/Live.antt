-- The code of a live batch: the engine reads what the private device reads, and doesn't stray.
use Rattle.std.proofs.Common.{◌≡◌, ℕ, zero, suc, ◌+◌, ◌*◌, ◌%◌, ◌||◌, Bool, true, false, [], ◌∷◌, cond, eqb, refl, sym, ap, ◌∙◌}
use Rattle.std.specs.Int.{from_le_bytes, w32}
use Rattle.gv_cmd.specs.Table.{length_of, read_length}
use Rattle.gv_entry.specs.Ranges.{InParts}
use Rattle.gv_gpu.specs.Device.{Device}
use Rattle.gv_gpu.specs.Physical.{operand_at, dword_at, dword_strays, byte_at, read_strays}
use Rattle.gv_gpu.specs.Step.{Stepping, runs_privileged, active_head, head_read, head_read_from, dwords_stray}
use Rattle.gv_place.specs.Place.{ReadsSame}
use Rattle.gv_place.proofs.Kept.{aligned-test}
use Rattle.gv_private.specs.Space.{PrivateSpace, operand_read}
use Rattle.gv_turn.specs.Same.{Setting, Same}
use Rattle.gv_turn.proofs.Simulated.{dword_loaded, read_own, neither}

either : (b x y : Bool) → x ≡ false → y ≡ false → cond b x y ≡ false
either true x y hx hy = hx
either false x y hx hy = hy

four : (a b c e : Bool) → a ≡ false → b ≡ false → c ≡ false → e ≡ false → (a || b || c || e) ≡ false
four true b c e ha hb hc he = cc
four false true c e ha hb hc he = cc
four false false true e ha hb hc he = cc
four false false false e ha hb hc he = he

by_alignment : Device → ℕ → ℕ → Bool → ℕ
by_alignment d root at b = cond b (operand_at d root false at) (from_le_bytes w32 (byte_at d root false at ∷ byte_at d root false (at + 1) ∷ byte_at d root false (at + 2) ∷ byte_at d root false (at + 3) ∷ []))

dword-aligned : (d : Device) (root at : ℕ) → at % 4 ≡ 0 → dword_at d root false at ≡ operand_at d root false at
unfolding dword_at by_alignment
dword-aligned d root at fit = ap (by_alignment d root at) (aligned-test at fit)

module _ (t : Setting) (parts : InParts t.space.ranges) (x : PrivateSpace) (y : Stepping) (same : Same t x y) where
  pub code-read : ReadsSame y.device y.context.root (operand_read x false)
  code-read = record { dword = λ at fit. dword-aligned y.device y.context.root at fit ∙ sym (dword_loaded t parts x y same false at refl) }

  code-own : (at : ℕ) → dword_strays y.device y.context false at ≡ false
  unfolding dword_strays
  code-own at = either (eqb (at % 4) 0) _ _ (own at) (four _ _ _ _ (own at) (own (at + 1)) (own (at + 2)) (own (at + 3)))
    where
      own : (k : ℕ) → read_strays y.device y.context false k ≡ false
      own k = read_own t parts x y same false k refl

  codes-own : (at n : ℕ) → dwords_stray y.device y.context false at n ≡ false
  unfolding dwords_stray
  codes-own at zero = refl
  codes-own at (suc n) = neither _ _ (codes-own at n) (code-own (at + 4 * n))

  pub code-straight : runs_privileged y.context.place ≡ false → (head_read y.device y.context).strayed ≡ false
  unfolding head_read
  code-straight live = ap (λ b. (head_read_from y.device y.context b (active_head y.context)).strayed) live ∙ codes-own (active_head y.context) (read_length (length_of (dword_at y.device y.context.root false (active_head y.context))))
