-- Lists of frames that are taken from the numbers below a bound.
use Rattle.std.proofs.Common.{◌≡◌, ◌≢◌, ℕ, zero, suc, ◌+◌, ◌<◌, ◌≤◌, Bool, true, false, ◌||◌, cond, eqb, ltb, List, [], ◌∷◌, length, get_or, take, refl, sym, ap, ◌∙◌, subst, ⊎_elim, arith}
use Rattle.std.specs.List.{filter, range_with_len}
use Rattle.std.proofs.lemmas.Bool.{cases_eq, eq-eqb, ne_eqb, lt-ltb, false≢true}
use Rattle.std.proofs.lemmas.Bool.Decides.{nat_tests}
use Rattle.std.proofs.lemmas.List.Folds.{list_any_at}
use Rattle.gv_shape.specs.Counts.{is_among}
use Rattle.gv_private.specs.Roots.{with_root}
use Rattle.gv_gtt.specs.Turning.{AreOnce}

-- ---- membership

-- what isn't among these stands at no place
pub not-at : (xs : List ℕ) (x k : ℕ) → is_among xs x ≡ false → k < length xs → get_or xs k 0 ≢ x
not-at xs x k none low same = false≢true (sym none ∙ list_any_at (λ t. eqb t x) xs k 0 low (eq-eqb (get_or xs k 0) x same))

-- of numbers that come once, the one at a place isn't among those before it
pub fresh-at : (xs : List ℕ) (k : ℕ) → AreOnce xs → k < length xs → is_among (take k xs) (get_or xs k 0) ≡ false
fresh-at [] k once low = absurd (omega arith)
fresh-at (x ∷ xs) zero once low = refl
fresh-at (x ∷ xs) (suc k) once low =
    let inside : k < length xs = omega arith in
    ap (λ b. b || is_among (take k xs) (get_or xs k 0)) (ne_eqb x (get_or xs k 0) (λ same. not-at xs x k once.0 inside (sym same))) ∙ fresh-at xs k once.1 inside

-- ---- a filter of a range, a number at a time

below_by : (b : Bool) (s x : ℕ) (rest : List ℕ) → x < s → is_among rest x ≡ false → is_among (cond b (s ∷ rest) rest) x ≡ false
below_by true s x rest low none = ap (λ c. c || is_among rest x) (ne_eqb s x (λ same. let e = same in absurd (omega arith))) ∙ none
below_by false s x rest low none = none

once_by : (b : Bool) (s : ℕ) (rest : List ℕ) → is_among rest s ≡ false → AreOnce rest → AreOnce (cond b (s ∷ rest) rest)
once_by true s rest none once = (none, once)
once_by false s rest none once = once

AllPass : (ℕ → Bool) → ℕ → List ℕ → Type 0
AllPass p n xs = (k : ℕ) → k < length xs → (get_or xs k 0 < n) × (p (get_or xs k 0) ≡ true)

pass_by : (b : Bool) (p : ℕ → Bool) (s n : ℕ) (rest : List ℕ) → p s ≡ b → s < n → AllPass p n rest → AllPass p n (cond b (s ∷ rest) rest)
unfolding AllPass
pass_by true p s n rest is low all zero inside = (low, is)
pass_by true p s n rest is low all (suc k) inside = all k (omega arith)
pass_by false p s n rest is low all k inside = all k inside

with_low_by : (b : Bool) (s root : ℕ) (rest : List ℕ) → root < s → with_root rest root ≡ root ∷ rest → with_root (cond b (s ∷ rest) rest) root ≡ root ∷ cond b (s ∷ rest) rest
with_low_by true s root rest low is = λ i. cond (ne_eqb root s (λ same. let e = same in absurd (omega arith)) i) (s ∷ rest) (cond (lt-ltb root s low i) (root ∷ s ∷ rest) (s ∷ with_root rest root))
with_low_by false s root rest low is = is

with_same_by : (b : Bool) (root : ℕ) (rest : List ℕ) → with_root rest root ≡ root ∷ rest → with_root (cond b (root ∷ rest) rest) root ≡ root ∷ rest
with_same_by true root rest is = ap (λ c. cond c (root ∷ rest) (cond (ltb root root) (root ∷ root ∷ rest) (root ∷ with_root rest root))) (eq-eqb root root refl)
with_same_by false root rest is = is

with_later_by : (b : Bool) (s root : ℕ) (rest more : List ℕ) → s < root → with_root rest root ≡ more → with_root (cond b (s ∷ rest) rest) root ≡ cond b (s ∷ more) more
with_later_by true s root rest more high is =
    (λ i. cond (ne_eqb root s (λ same. let e = same in absurd (omega arith)) i) (s ∷ rest) (cond (not_below i) (root ∷ s ∷ rest) (s ∷ is i)))
  where
    not_below : ltb root s ≡ false
    not_below = grind (arith, nat_tests)
with_later_by false s root rest more high is = is

-- ---- a filter of a range

filter-above : (p q : ℕ → Bool) (s n : ℕ) → ((f : ℕ) → s ≤ f → p f ≡ q f) → filter p (range_with_len s n) ≡ filter q (range_with_len s n)
filter-above p q s zero same = refl
filter-above p q s (suc n) same =
    let rest = filter-above p q (s + 1) n (λ f low. same f (omega arith)) in
    λ i. cond (same s (omega arith) i) (s ∷ rest i) (rest i)

module _ (p : ℕ → Bool) where
  abbrev chosen : ℕ → ℕ → List ℕ
  chosen s n = filter p (range_with_len s n)

  below-chosen : (s n x : ℕ) → x < s → is_among (chosen s n) x ≡ false
  below-chosen s zero x low = refl
  below-chosen s (suc n) x low = below_by (p s) s x (chosen (s + 1) n) low (below-chosen (s + 1) n x (omega arith))

  pub once-chosen : (s n : ℕ) → AreOnce (chosen s n)
  once-chosen s zero = tt
  once-chosen s (suc n) = once_by (p s) s (chosen (s + 1) n) (below-chosen (s + 1) n s (omega arith)) (once-chosen (s + 1) n)

  all-pass : (m s n : ℕ) → s + n ≤ m → AllPass p m (chosen s n)
  unfolding AllPass
  all-pass m s zero few = λ k low. absurd (omega arith)
  all-pass m s (suc n) few = pass_by (p s) p s m (chosen (s + 1) n) refl (omega arith) (all-pass m (s + 1) n (omega arith))

  pub at-chosen : (n k : ℕ) → k < length (chosen 0 n) → (get_or (chosen 0 n) k 0 < n) × (p (get_or (chosen 0 n) k 0) ≡ true)
  unfolding AllPass
  at-chosen n k low = all-pass n 0 n (omega arith) k low

  -- ---- a root more

  -- a number below the first is put in front
  with-low : (s n root : ℕ) → root < s → with_root (chosen s n) root ≡ root ∷ chosen s n
  with-low s zero root low = refl
  with-low s (suc n) root low = with_low_by (p s) s root (chosen (s + 1) n) low (with-low (s + 1) n root (omega arith))

  abbrev or_root : ℕ → ℕ → Bool
  or_root root f = eqb root f || p f

  module _ (root : ℕ) where
    above_same : (s f : ℕ) → root ≡ s → s + 1 ≤ f → p f ≡ or_root root f
    above_same s f same low = sym (ap (λ b. b || p f) (ne_eqb root f (λ e. let x = e in absurd (omega arith))))

    pub with-chosen : (s n : ℕ) → s ≤ root → root < s + n → with_root (chosen s n) root ≡ filter (or_root root) (range_with_len s n)
    with-chosen s zero low high = absurd (omega arith)
    with-chosen s (suc n) low high = ⊎_elim
        (λ same.
        let rest = filter-above p (or_root root) (s + 1) n (λ f above. above_same s f same above) in
        let here : with_root (cond (p s) (s ∷ chosen (s + 1) n) (chosen (s + 1) n)) root ≡ s ∷ chosen (s + 1) n =
        subst (λ r. with_root (cond (p s) (s ∷ chosen (s + 1) n) (chosen (s + 1) n)) r ≡ s ∷ chosen (s + 1) n) (sym same)
        (with_same_by (p s) s (chosen (s + 1) n) (with-low (s + 1) n s (omega arith))) in
        here ∙ (λ i. s ∷ rest i) ∙ sym (ap (λ b. cond (b || p s) (s ∷ filter (or_root root) (range_with_len (s + 1) n)) (filter (or_root root) (range_with_len (s + 1) n))) (eq-eqb root s same)))
        (λ other.
        with_later_by (p s) s root (chosen (s + 1) n) (filter (or_root root) (range_with_len (s + 1) n)) (omega (arith, other)) (with-chosen (s + 1) n (omega (arith, other)) (omega arith))
        ∙ sym (ap (λ b. cond (b || p s) (s ∷ filter (or_root root) (range_with_len (s + 1) n)) (filter (or_root root) (range_with_len (s + 1) n))) (ne_eqb root s other)))
        (cases_eq root s)
