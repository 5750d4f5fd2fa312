-- The numbers that can be given: one is given, one is taken back, one is added.
use Rattle.std.proofs.Common.{◌≡◌, ℕ, ◌<◌, ◌≤◌, Bool, true, false, List, [], ◌∷◌, ◌++◌, length, set, get_or, refl, sym, ◌∙◌, subst, inl, inr, arith, length-set, get_or-set_other}
use Rattle.std.proofs.lemmas.Bool.{cases_lt}
use Rattle.std.proofs.lemmas.List.{get_or_append_left, get_or_push, length_push}
use Rattle.gv_arena.specs.Numbers.{AreFree}

module _ (marks : List Bool) (free : List ℕ) (p : ℕ) where
  before : (k : ℕ) → k < length free → get_or (free ++ p ∷ []) k 0 ≡ get_or free k 0
  before k lt = get_or_append_left free (p ∷ []) 0 k lt

  last : (k : ℕ) → length free ≡ k → get_or (free ++ p ∷ []) k 0 ≡ p
  last k e = get_or_push free p 0 k e

  module _ (h : AreFree marks (free ++ p ∷ [])) where
    pub given_within : p < length marks
    given_within = subst (λ n. n < length marks) (last (length free) refl) (h.unmarked (length free) (omega (arith, length_push free p))).0

    pub given_unmarked : get_or marks p false ≡ false
    given_unmarked = subst (λ n. get_or marks n false ≡ false) (last (length free) refl) (h.unmarked (length free) (omega (arith, length_push free p))).1

    other : (k : ℕ) → k < length free → get_or free k 0 ≡ p → ⊥
    other k lt e =
        let same : k ≡ length free = h.apart k (length free) (omega (arith, length_push free p)) (omega (arith, length_push free p)) (before k lt ∙ e ∙ sym (last (length free) refl)) in
        omega arith

    pub one_given : AreFree (set marks p true) free
    one_given = record {
      unmarked = λ k lt. let was = h.unmarked k (omega (arith, length_push free p)) in (
        subst (λ n. get_or free k 0 < n) (sym (length-set marks p true)) (subst (λ n. n < length marks) (before k lt) was.0),
        get_or-set_other marks p (get_or free k 0) true false (other k lt) ∙ subst (λ n. get_or marks n false ≡ false) (before k lt) was.1,
      );
      apart = λ j k lj lk e. h.apart j k (omega (arith, length_push free p)) (omega (arith, length_push free p)) (before j lj ∙ e ∙ sym (before k lk));
    }

module _ (marks : List Bool) (free : List ℕ) (h : AreFree marks free) where
  at_end : (j : ℕ) → j < length (free ++ length marks ∷ []) → (length free ≤ j) → get_or (free ++ length marks ∷ []) j 0 ≡ length marks
  at_end j lj le = let same : length free ≡ j = omega (arith, length_push free (length marks)) in get_or_push free (length marks) 0 j same

  new_mark : get_or (marks ++ false ∷ []) (length marks) false ≡ false
  new_mark = get_or_push marks false false (length marks) refl

  -- one more number, which is not live
  pub one_added : AreFree (marks ++ false ∷ []) (free ++ length marks ∷ [])
  one_added = record {
    unmarked = λ k lk. elim (cases_lt k (length free)) [
      | inl lt ↦ (let was = h.unmarked k lt in
          subst (λ n. (n < length (marks ++ false ∷ [])) × (get_or (marks ++ false ∷ []) n false ≡ false)) (sym (get_or_append_left free (length marks ∷ []) 0 k lt))
          (omega (arith, was.0, length_push marks false), get_or_append_left marks (false ∷ []) false (get_or free k 0) was.0 ∙ was.1))
      | inr le ↦ subst (λ n. (n < length (marks ++ false ∷ [])) × (get_or (marks ++ false ∷ []) n false ≡ false)) (sym (at_end k lk le)) (omega (arith, length_push marks false), new_mark)
    ];
    apart = λ j k lj lk e. elim (cases_lt j (length free)) [
      | inl ltj ↦ elim (cases_lt k (length free)) [
        | inl ltk ↦ h.apart j k ltj ltk (sym (get_or_append_left free (length marks ∷ []) 0 j ltj) ∙ e ∙ get_or_append_left free (length marks ∷ []) 0 k ltk)
        | inr lek ↦ absurd (let same : get_or free j 0 ≡ length marks = sym (get_or_append_left free (length marks ∷ []) 0 j ltj) ∙ e ∙ at_end k lk lek in omega (arith, (h.unmarked j ltj).0, same))
      ]
      | inr lej ↦ elim (cases_lt k (length free)) [
        | inl ltk ↦ absurd (let same : get_or free k 0 ≡ length marks = sym (get_or_append_left free (length marks ∷ []) 0 k ltk) ∙ sym e ∙ at_end j lj lej in omega (arith, (h.unmarked k ltk).0, same))
        | inr lek ↦ omega (arith, length_push free (length marks))
      ]
    ];
  }
