-- One step of a loop over the words of values.
use Rattle.std.proofs.Common.{◌≡◌, ℕ, ◌+◌, ◌<◌, List, [], ◌∷◌, ◌++◌, Option, Some, None, length, get_or, drop, map, refl, ap, sym, ◌∙◌, IfSome, nat_lt, subst}
use Rattle.std.proofs.lemmas.List.{at_drop_more, append_assoc, get_or-map, length-map}
use Rattle.std.proofs.lemmas.Bool.{cond_both}
use borrow.Author.Tests.{ltb-true}
use Rattle.std.specs.Borrow.{Bor}
use Rattle.std.specs.List.{AllByRecursion}
use Rattle.gv_types.specs.declared.event.Width.{Width}
use Rattle.gv_text.specs.Number.{◌>>=◌, number_of, number_below, provided}
use Rattle.gv_text.specs.Grammar.{value_limit, values_of}

abbrev pub with_front : List ℕ → Option (List ℕ) → Option (List ℕ)
with_front front vs = vs >>= λ more. Some (front ++ more)

-- a function of what is left of lent slices, one element on
pub lent_step : {Y : Type 0} (F : List (List ℕ) → Y) (xs : List (Bor (List ℕ))) (i : ℕ) (d : Bor (List ℕ)) → i < length xs → F (drop i (map (λ w. w.now) xs)) ≡ F ((get_or xs i d).now ∷ drop (i + 1) (map (λ w. w.now) xs))
lent_step F xs i d h =
    let words = map (λ (w : Bor (List ℕ)). w.now) xs in
    let at : i < length words = rw length-map h in
    at_drop_more F words i [] at ∙ ap (λ l. F (l ∷ drop (i + 1) words)) (get_or-map (λ (w : Bor (List ℕ)). w.now) xs i d [] h)

-- what a goal has past the end of a list of lent slices
abbrev pub no_slice : Bor (List ℕ)
no_slice = record { ref_ptr = (0, 0); now = [] }

abbrev pub lent_at : List (Bor (List ℕ)) → ℕ → List ℕ
lent_at xs i = (get_or xs i no_slice).now

abbrev pub lent_rest : List (Bor (List ℕ)) → ℕ → List (List ℕ)
lent_rest xs i = drop (i + 1) (map (λ w. w.now) xs)

again : (o : Option (List ℕ)) (front : List ℕ) (v : ℕ) → with_front (front ++ v ∷ []) o ≡ with_front front (o >>= λ vs. Some (v ∷ vs))
again None front v = refl
again (Some vs) front v = ap (λ z. Some z) (append_assoc front (v ∷ []) vs)

module _ (width : Width) (front : List ℕ) (w : List ℕ) (ws : List (List ℕ)) (all : Option (List ℕ)) where
  pub none_left : None ≡ number_below (value_limit width) w → with_front front (values_of width (w ∷ ws)) ≡ all → None ≡ all
  none_left none kept = ap (λ o. with_front front (o >>= λ v. values_of width ws >>= λ vs. Some (v ∷ vs))) none ∙ kept

  pub one_more : (v : ℕ) → Some v ≡ number_below (value_limit width) w → with_front front (values_of width (w ∷ ws)) ≡ all → with_front (front ++ v ∷ []) (values_of width ws) ≡ all
  one_more v is kept = again (values_of width ws) front v ∙ ap (λ o. with_front front (o >>= λ v. values_of width ws >>= λ vs. Some (v ∷ vs))) is ∙ kept

checked : (limit n : ℕ) → IfSome (provided (nat_lt n limit) n) (λ m. m < limit)
checked limit n = cond_both (nat_lt n limit) (Some n) None (λ o. IfSome o (λ m. m < limit)) (λ below. ltb-true n limit below) (λ above. tt)

pub below : (limit : ℕ) (word : List ℕ) → IfSome (number_below limit word) (λ n. n < limit)
below limit word = elim (number_of word) as (λ o. IfSome (o >>= λ n. provided (nat_lt n limit) n) (λ n. n < limit)) [ None ↦ tt | Some n ↦ checked limit n ]

module _ (P : ℕ → Type 0) where
  both : (o : Option ℕ) (vs : Option (List ℕ)) → IfSome o P → IfSome vs (AllByRecursion P) → IfSome (o >>= λ v. vs >>= λ vs. Some (v ∷ vs)) (AllByRecursion P)
  both None vs first more = tt
  both (Some v) None first more = tt
  both (Some v) (Some vs) first more = (first, more)

pub values_of-small : (width : Width) (ws : List (List ℕ)) → IfSome (values_of width ws) (AllByRecursion (λ v. v < value_limit width))
values_of-small width [] = tt
values_of-small width (w ∷ ws) = both (λ v. v < value_limit width) (number_below (value_limit width) w) (values_of width ws) (below (value_limit width) w) (values_of-small width ws)

-- what the loop has at its end
pub small_result : (width : Width) (ws : List (List ℕ)) (vs : List ℕ) → Some vs ≡ values_of width ws → AllByRecursion (λ v. v < value_limit width) vs
small_result width ws vs is = subst (λ o. IfSome o (AllByRecursion (λ v. v < value_limit width))) (sym is) (values_of-small width ws)
