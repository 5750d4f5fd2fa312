-- How many nodes there are.
use Rattle.std.proofs.Common.{ℕ, zero, suc, ◌+◌, ◌*◌, ◌≤◌, ◌<◌, ◌≡◌, Bool, true, false, eqb, None, Some, is_some, sym, ap, ◌∙◌, subst, arith, ⊎_elim, ◌/◌}
use Rattle.std.proofs.lemmas.Bool.{cases_eq, eq-eqb, ne_eqb, cases_lt}
use Rattle.std.proofs.lemmas.Bool.Decides.{nat_tests}
use Rattle.gv_shape.specs.Shadow.{Pages}
use Rattle.gv_shape.specs.Counts.{total, one_if}
use Rattle.gv_shape.proofs.Totals.{total-change, total-bound, total-same}
use Rattle.gv_sppgtt.specs.Grown.{nodes_of, count_of, splits_of}
use Rattle.gv_sppgtt.specs.Sound.{IsWhole}

-- a sum with a term that could be higher
total-below : (n k b : ℕ) (f : ℕ → ℕ) → k < n → f k + 1 ≤ b → ((j : ℕ) → f j ≤ b) → total n f + 1 ≤ n * b
unfolding total
total-below zero k b f low small most = absurd (omega arith)
total-below (suc n) k b f low small most =
    ⊎_elim
    (λ same. let rest = total-bound n b f most in let at : f k ≡ f n = ap f same in grind arith)
    (λ other. let rest = total-below n k b f (omega arith) small most in let last = most n in grind arith)
    (cases_eq k n)

pub one_most : (b : Bool) → one_if b ≤ 1
one_most true = omega arith
one_most false = omega arith

pub four_most : (pages : Pages) (f : ℕ) → nodes_of pages f ≤ 4
four_most pages f =
    let a = one_most (is_some (pages 1 f)) in let b = one_most (is_some (pages 2 f)) in
    let c = one_most (is_some (pages 3 f)) in let d = one_most (is_some (pages 4 f)) in
    omega arith

pub two_most : (pages : Pages) (j : ℕ) → splits_of pages j ≤ 2
two_most pages j = let a = one_most (is_some (pages 5 (j * 512))) in let b = one_most (is_some (pages 6 (j * 512))) in omega arith

module _ (pages : Pages) (level frame : ℕ) (absent : pages level frame ≡ None) (one : 1 ≤ level) (six : level ≤ 6) (frames : ℕ) (few : frames ≤ 16384) (low : frame < frames) (whole : IsWhole frames level frame) where
  bit_most : (k : ℕ) → one_if (is_some (pages k frame)) + one_if (eqb k level) ≤ 1
  bit_most k = ⊎_elim
      (λ same. let z : one_if (is_some (pages k frame)) ≡ 0 = ap (λ x. one_if (is_some (pages x frame))) same ∙ ap (λ o. one_if (is_some o)) absent in let o = one_most (eqb k level) in omega arith)
      (λ other. let z : one_if (eqb k level) ≡ 0 = ap one_if (ne_eqb k level other) in let o = one_most (is_some (pages k frame)) in omega arith)
      (cases_eq k level)

  which : level < 5 → one_if (eqb 1 level) + one_if (eqb 2 level) + one_if (eqb 3 level) + one_if (eqb 4 level) ≡ 1
  which four = grind (arith, nat_tests)

  which_split : 5 ≤ level → one_if (eqb 5 level) + one_if (eqb 6 level) ≡ 1
  which_split many = grind (arith, nat_tests)

  -- where the split tables of the frame are counted
  at : ℕ
  at = frame / 512

  at_is : 5 ≤ level → (at * 512 ≡ frame) × (at < 32)
  unfolding at
  at_is many = let w = whole many in let a = w.0 in let b = w.1 in (omega arith, omega arith)

  pub count-most : count_of frames pages + 1 ≤ frames * 4 + 64
  count-most = ⊎_elim
      (λ four.
      let first = total-below frames frame 4 (nodes_of pages) low (let a = bit_most 1 in let b = bit_most 2 in let c = bit_most 3 in let d = bit_most 4 in let w = which four in omega arith) (four_most pages) in
      let second = total-bound 32 2 (splits_of pages) (two_most pages) in
      omega arith)
      (λ many.
      let here = at_is many in
      let first = total-bound frames 4 (nodes_of pages) (four_most pages) in
      let bits : splits_of pages at + 1 ≤ 2 = subst (λ n. one_if (is_some (pages 5 n)) + one_if (is_some (pages 6 n)) + 1 ≤ 2) (sym here.0) (let a = bit_most 5 in let b = bit_most 6 in let w = which_split many in omega arith) in
      let second = total-below 32 at 2 (splits_of pages) here.1 bits (two_most pages) in
      omega arith)
      (cases_lt level 5)

  module _ (made : Pages) (page : ℕ) (here : made level frame ≡ Some page) (others : (k f : ℕ) → (k ≡ level → f ≡ frame → ⊥) → made k f ≡ pages k f) where
    bit : (k : ℕ) → one_if (is_some (made k frame)) ≡ one_if (is_some (pages k frame)) + one_if (eqb k level)
    bit k = ⊎_elim
        (λ same.
        let x : one_if (is_some (made k frame)) ≡ 1 = ap (λ z. one_if (is_some (made z frame))) same ∙ ap (λ o. one_if (is_some o)) here in
        let y : one_if (is_some (pages k frame)) ≡ 0 = ap (λ z. one_if (is_some (pages z frame))) same ∙ ap (λ o. one_if (is_some o)) absent in
        let z : one_if (eqb k level) ≡ 1 = ap one_if (eq-eqb k level same) in
        omega arith)
        (λ other.
        let x : one_if (is_some (made k frame)) ≡ one_if (is_some (pages k frame)) = ap (λ o. one_if (is_some o)) (others k frame (λ e _. other e)) in
        let z : one_if (eqb k level) ≡ 0 = ap one_if (ne_eqb k level other) in
        omega arith)
        (cases_eq k level)

    same_at : (k f : ℕ) → (k ≡ level → f ≡ frame → ⊥) → one_if (is_some (made k f)) ≡ one_if (is_some (pages k f))
    same_at k f apart = ap (λ o. one_if (is_some o)) (others k f apart)

    pub count-made : count_of frames made ≡ count_of frames pages + 1
    count-made = ⊎_elim
        (λ four.
        let change = total-change frames frame (nodes_of made) (nodes_of pages) low (λ j b other. λ i. same_at 1 j (λ _ e. other e) i + same_at 2 j (λ _ e. other e) i + same_at 3 j (λ _ e. other e) i + same_at 4 j (λ _ e. other e) i) in
        let a = bit 1 in let b = bit 2 in let c = bit 3 in let d = bit 4 in let w = which four in
        let rest = total-same 32 (splits_of made) (splits_of pages) (λ j b. λ i. same_at 5 (j * 512) (λ e _. let x = e in omega arith) i + same_at 6 (j * 512) (λ e _. let x = e in omega arith) i) in
        omega arith)
        (λ many.
        let here = at_is many in
        let rest = total-same frames (nodes_of made) (nodes_of pages) (λ j b. λ i. same_at 1 j (λ e _. let x = e in omega arith) i + same_at 2 j (λ e _. let x = e in omega arith) i + same_at 3 j (λ e _. let x = e in omega arith) i + same_at 4 j (λ e _. let x = e in omega arith) i) in
        let change = total-change 32 at (splits_of made) (splits_of pages) here.1 (λ j b other. λ i. same_at 5 (j * 512) (λ _ e. other (let x = e in let y = here.0 in omega arith)) i + same_at 6 (j * 512) (λ _ e. other (let x = e in let y = here.0 in omega arith)) i) in
        let bits : splits_of made at ≡ splits_of pages at + 1 =
        subst (λ n. one_if (is_some (made 5 n)) + one_if (is_some (made 6 n)) ≡ one_if (is_some (pages 5 n)) + one_if (is_some (pages 6 n)) + 1) (sym here.0) (let a = bit 5 in let b = bit 6 in let w = which_split many in omega arith) in
        omega arith)
        (cases_lt level 5)
