-- The pairs of a LOAD_REGISTER_IMM, one at a time.
use Rattle.std.proofs.Common.{◌≡◌, ℕ, suc, ◌+◌, ◌*◌, ◌<◌, ◌≤◌, List, [], ◌∷◌, length, drop, get_or, refl, ap, sym, ◌∙◌, arith, length-drop, drop-cons, add-one}
use Rattle.gv_cmd.specs.Bits.{register}
use Rattle.gv_cmd.specs.Table.{pair_count}
use Rattle.gv_cmd.specs.Effect.{Operations, engine_register_set, engine_registers_set}

next_two : (ws : List ℕ) (i : ℕ) → i + 1 < length ws → drop i ws ≡ get_or ws i 0 ∷ get_or ws (i + 1) 0 ∷ drop (i + 2) ws
next_two ws i h =
    let first : i < length ws = omega arith in
    drop-cons ws i 0 first
    ∙ ap (λ k. get_or ws i 0 ∷ drop k ws) (sym (add-one i))
    ∙ ap (λ xs. get_or ws i 0 ∷ xs) (drop-cons ws (i + 1) 0 h)
    ∙ ap (λ k. get_or ws i 0 ∷ get_or ws (i + 1) 0 ∷ drop k ws) (two_more i)
  where
    two_more : (n : ℕ) → suc (n + 1) ≡ n + 2
    two_more n = omega arith

module _ {S : Type 0} (ops : Operations S) (engine : ℕ) (ws : List ℕ) (n : ℕ) where
  pub registers_set-more : (s : S) → n < pair_count ws
      → engine_registers_set ops engine s (drop (1 + 2 * n) ws) ≡ engine_registers_set ops engine (engine_register_set ops engine s (register ws (1 + 2 * n)) (get_or ws (2 + 2 * n) 0)) (drop (1 + 2 * (n + 1)) ws)
  registers_set-more s h =
      let there : 1 + 2 * n + 1 < length ws = omega arith in
      let second : 1 + 2 * n + 1 ≡ 2 + 2 * n = omega arith in
      let third : 1 + 2 * n + 2 ≡ 1 + 2 * (n + 1) = omega arith in
      ap (engine_registers_set ops engine s) (next_two ws (1 + 2 * n) there)
      ∙ ap (λ i. engine_registers_set ops engine (engine_register_set ops engine s (register ws (1 + 2 * n)) (get_or ws i 0)) (drop (1 + 2 * n + 2) ws)) second
      ∙ ap (λ i. engine_registers_set ops engine (engine_register_set ops engine s (register ws (1 + 2 * n)) (get_or ws (2 + 2 * n) 0)) (drop i ws)) third

  pub registers_set-end : (s : S) → n ≡ pair_count ws → engine_registers_set ops engine s (drop (1 + 2 * n) ws) ≡ s
  registers_set-end s h = by_rest (drop (1 + 2 * n) ws) (rw length-drop (omega arith))
    where
      by_rest : (xs : List ℕ) → length xs ≤ 1 → engine_registers_set ops engine s xs ≡ s
      by_rest [] h = refl
      by_rest (x ∷ []) h = refl
      by_rest (x ∷ y ∷ xs) h = absurd (omega arith)

  -- the step of the loop, with the values that the code has
  pub registers_set-step : (s t : S) (r v m : ℕ) → n < pair_count ws → m ≡ n → r ≡ register ws (1 + 2 * m) → v ≡ get_or ws (2 + 2 * m) 0 → t ≡ engine_register_set ops engine s r v
      → engine_registers_set ops engine t (drop (1 + 2 * (n + 1)) ws) ≡ engine_registers_set ops engine s (drop (1 + 2 * n) ws)
  registers_set-step s t r v m h number register_is value_is is =
      let first = register_is ∙ ap (λ k. register ws (1 + 2 * k)) number in
      let second = value_is ∙ ap (λ k. get_or ws (2 + 2 * k) 0) number in
      ap (λ u. engine_registers_set ops engine u (drop (1 + 2 * (n + 1)) ws))
      (is ∙ ap (λ k. engine_register_set ops engine s k v) first ∙ ap (engine_register_set ops engine s (register ws (1 + 2 * n))) second)
      ∙ sym (registers_set-more s h)
