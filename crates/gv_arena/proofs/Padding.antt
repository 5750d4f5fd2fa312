-- A list that is padded up to the page limit, index by index.
use Rattle.std.proofs.Common.{◌≡◌, ℕ, zero, suc, ◌+◌, ◌-◌, ◌<◌, ◌≤◌, List, ◌++◌, length, set, get_or, replicate, refl, sym, ap, ◌∙◌, inl, inr, arith, length-append, length-set}
use Rattle.std.proofs.lemmas.Bool.{cases_lt}
use Rattle.std.proofs.lemmas.List.{length-replicate, get_or_append_left, get_or-append_right, get_or_past, set-append_left, append_assoc, replicate-append-replicate}
use Rattle.std.proofs.lemmas.List.Sums.{sum_by-append, sum_by-cons}
use Rattle.std.specs.Prelude.{sum_by}
use Rattle.gv_arena.specs.Contents.{page_limit, padded}

pub limit_is : page_limit ≡ 131072
unfolding page_limit
limit_is = refl

module _ {X : Type 0} (x : X) where
  same-replicate : (n i : ℕ) → get_or (replicate n x) i x ≡ x
  same-replicate zero i = refl
  same-replicate (suc n) zero = refl
  same-replicate (suc n) (suc i) = same-replicate n i

  pub get_or-padded : (xs : List X) (i : ℕ) → get_or (padded x xs) i x ≡ get_or xs i x
  unfolding padded
  get_or-padded xs i = let more = page_limit - length xs in elim (cases_lt i (length xs)) [
    | inl lt ↦ get_or_append_left xs (replicate more x) x i lt
    | inr le ↦ get_or-append_right xs (replicate more x) (length xs) i x refl le ∙ same-replicate more (i - length xs) ∙ sym (get_or_past xs i x le)
  ]

  pub set-padded : (xs : List X) (i : ℕ) (y : X) → i < length xs → set (padded x xs) i y ≡ padded x (set xs i y)
  unfolding padded
  set-padded xs i y lt = set-append_left xs (replicate (page_limit - length xs) x) i y lt ∙ ap (λ (n : ℕ). set xs i y ++ replicate (page_limit - n) x) (sym (length-set xs i y))

  pub padded_more : (xs : List X) (n : ℕ) → length xs + n ≤ page_limit → padded x (xs ++ replicate n x) ≡ padded x xs
  unfolding padded
  padded_more xs n le =
      let long : length (xs ++ replicate n x) ≡ length xs + n = length-append xs (replicate n x) ∙ ap (λ (k : ℕ). length xs + k) (length-replicate n x) in
      let rest : n + (page_limit - length (xs ++ replicate n x)) ≡ page_limit - length xs = omega (arith, long) in
      let pads = page_limit - length (xs ++ replicate n x) in
      append_assoc xs (replicate n x) (replicate pads x) ∙ ap (λ (ys : List X). xs ++ ys) (replicate-append-replicate n pads x ∙ ap (λ (k : ℕ). replicate k x) rest)

  pub length-padded : (xs : List X) → length xs ≤ page_limit → length (padded x xs) ≡ page_limit
  unfolding padded
  length-padded xs le = let pads = length-replicate (page_limit - length xs) x in omega (arith, length-append xs (replicate (page_limit - length xs) x), pads)

  module _ (f : X → ℕ) (none : f x ≡ 0) where
    pub sum_by-replicate : (n : ℕ) → sum_by f (replicate n x) ≡ 0
    sum_by-replicate zero = refl
    sum_by-replicate (suc n) = sum_by-cons f x (replicate n x) ∙ omega (arith, none, sum_by-replicate n)

    pub sum_by-padded : (xs : List X) → sum_by f (padded x xs) ≡ sum_by f xs
    unfolding padded
    sum_by-padded xs = sum_by-append f xs (replicate (page_limit - length xs) x) ∙ omega (arith, sum_by-replicate (page_limit - length xs))
