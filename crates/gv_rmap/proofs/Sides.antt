-- What follows for a chain from what was done to one of its sides.
use Rattle.std.proofs.lemmas.Bool.{cases_lt}
use Rattle.std.proofs.Common.{◌≡◌, ◌<◌, ◌≤◌, ◌↔◌, ℕ, Bool, IsTrue, inl, inr, true, false, List, ◌∷◌, ◌++◌, Option, Some, IsSome, find, ap, sym, subst, ◌∙◌}
use Rattle.std.specs.Option.{option_or}
use Rattle.gv_rmap.specs.declared.leaf.Leaf.{Leaf}
use Rattle.gv_rmap.specs.Leaves.{key, leaf_at, with_leaf, without_leaf, IsInOrder, is_behind}
use Rattle.gv_rmap.proofs.Order.{order_left, order_right, with_leaf-left, with_leaf-right, without_leaf-left, without_leaf-right, without_leaf-middle, leaf_at-left, leaf_at-right, find-behind_left, find-behind_right}

module _ (all xs : List Leaf) (y : Leaf) (ys : List Leaf) (parts : all ≡ xs ++ y ∷ ys) where
  pub found_right : (last : Option Leaf) (result : Option Leaf) → is_behind last y ≡ false → (IsInOrder ys → result ≡ find (is_behind last) ys) → IsInOrder all → result ≡ find (is_behind last) all
  found_right last result fails right order =
      let whole = subst IsInOrder parts order in
      right (order_right xs y ys whole) ∙ sym (find-behind_right last xs y ys fails whole) ∙ ap (find (is_behind last)) (sym parts)

  pub found_left : (last : Option Leaf) (result : Option Leaf) → is_behind last y ≡ true → (IsInOrder xs → result ≡ find (is_behind last) xs) → IsInOrder all → option_or result (Some y) ≡ find (is_behind last) all
  found_left last result passes left order =
      let whole = subst IsInOrder parts order in
      ap (λ o. option_or o (Some y)) (left (order_left xs y ys whole)) ∙ sym (find-behind_left last xs y ys passes) ∙ ap (find (is_behind last)) (sym parts)

  pub comes_left : (leaf : Leaf) (new : List Leaf) → key leaf < key y → (IsInOrder xs → new ≡ with_leaf leaf xs) → IsInOrder all → new ++ y ∷ ys ≡ with_leaf leaf all
  comes_left leaf new before left order =
      let whole = subst IsInOrder parts order in
      ap (λ l. l ++ y ∷ ys) (left (order_left xs y ys whole)) ∙ sym (with_leaf-left leaf xs y ys before) ∙ ap (with_leaf leaf) (sym parts)

  pub comes_right : (leaf : Leaf) (new : List Leaf) → key y ≤ key leaf → (IsInOrder ys → new ≡ with_leaf leaf ys) → IsInOrder all → xs ++ y ∷ new ≡ with_leaf leaf all
  comes_right leaf new behind right order =
      let whole = subst IsInOrder parts order in
      ap (λ l. xs ++ y ∷ l) (right (order_right xs y ys whole)) ∙ sym (with_leaf-right leaf xs y ys behind whole) ∙ ap (with_leaf leaf) (sym parts)

  pub goes_left : (leaf : Leaf) (new : List Leaf) → key leaf < key y → (IsInOrder xs → new ≡ without_leaf leaf xs) → IsInOrder all → new ++ y ∷ ys ≡ without_leaf leaf all
  goes_left leaf new before left order =
      let whole = subst IsInOrder parts order in
      ap (λ l. l ++ y ∷ ys) (left (order_left xs y ys whole)) ∙ sym (without_leaf-left leaf xs y ys before whole) ∙ ap (without_leaf leaf) (sym parts)

  pub goes_right : (leaf : Leaf) (new : List Leaf) → key y < key leaf → (IsInOrder ys → new ≡ without_leaf leaf ys) → IsInOrder all → xs ++ y ∷ new ≡ without_leaf leaf all
  goes_right leaf new behind right order =
      let whole = subst IsInOrder parts order in
      ap (λ l. xs ++ y ∷ l) (right (order_right xs y ys whole)) ∙ sym (without_leaf-right leaf xs y ys behind whole) ∙ ap (without_leaf leaf) (sym parts)

  pub goes_here : (leaf : Leaf) → key y ≡ key leaf → IsInOrder all → xs ++ ys ≡ without_leaf leaf all
  goes_here leaf same order =
      let whole = subst IsInOrder parts order in
      sym (without_leaf-middle leaf xs y ys same whole) ∙ ap (without_leaf leaf) (sym parts)

  pub stands_left : (leaf : Leaf) → key leaf < key y → IsInOrder all → IsSome (leaf_at all (key leaf)) → IsInOrder xs × IsSome (leaf_at xs (key leaf))
  stands_left leaf before order there =
      let whole = subst IsInOrder parts order in
      (order_left xs y ys whole, subst IsSome (ap (λ l. leaf_at l (key leaf)) parts ∙ leaf_at-left (key leaf) xs y ys before whole) there)

  pub stands_right : (leaf : Leaf) → key y < key leaf → IsInOrder all → IsSome (leaf_at all (key leaf)) → IsInOrder ys × IsSome (leaf_at ys (key leaf))
  stands_right leaf behind order there =
      let whole = subst IsInOrder parts order in
      (order_right xs y ys whole, subst IsSome (ap (λ l. leaf_at l (key leaf)) parts ∙ leaf_at-right (key leaf) xs y ys behind whole) there)

-- what a test that failed says
pub not_before : (b : Bool) (m n : ℕ) → (IsTrue b ↔ (m < n)) → b ≡ false → n ≤ m
not_before b m n means fails = elim (cases_lt m n) [ inl lt ↦ absurd (let e : b ≡ true = means.1 lt in cc) | inr le ↦ le ]
