-- Chains in order, around one of their leaves.
use Rattle.std.proofs.Common.{◌≡◌, ◌≢◌, ℕ, ◌+◌, ◌<◌, ◌≤◌, Bool, true, false, not, cond, eqb, ltb, List, [], ◌∷◌, ◌++◌, length, Option, Some, None, IsSome, IfSome, Contains, filter, find, get_or, zero, suc, refl, sym, ap, ◌∙◌, subst, inl, inr, arith}
use Rattle.std.specs.Option.{option_or}
use Rattle.std.proofs.lemmas.Bool.{lt-ltb, le-ltb, eq-eqb, ne_eqb, cases_lt, cases_order, ltb-true, ltb-false, eqb-true, eqb-false}
use Rattle.std.proofs.lemmas.List.Folds.{find-append}
use Rattle.std.proofs.lemmas.List.Elements.{filter-append}
use Rattle.gv_rmap.specs.declared.leaf.Leaf.{Leaf}
use Rattle.gv_rmap.specs.Leaves.{key, leaf_at, with_leaf, without_leaf, AreBehind, IsInOrder, is_behind, HasEachOnce}

-- each leaf stands before this key
abbrev AreBefore : ℕ → List Leaf → Type 0
AreBefore p [] = Unit {0}
AreBefore p (leaf ∷ leaves) = (key leaf < p) × AreBefore p leaves

-- no leaf stands in this key
abbrev pub AreElsewhere : ℕ → List Leaf → Type 0
AreElsewhere p [] = Unit {0}
AreElsewhere p (leaf ∷ leaves) = (key leaf ≢ p) × AreElsewhere p leaves

behind_front : (p : ℕ) (xs ys : List Leaf) → AreBehind p (xs ++ ys) → AreBehind p xs
behind_front p [] ys h = tt
behind_front p (x ∷ xs) ys h = (h.0, behind_front p xs ys h.1)

behind_middle : (p : ℕ) (xs : List Leaf) (y : Leaf) (ys : List Leaf) → AreBehind p (xs ++ y ∷ ys) → p < key y
behind_middle p [] y ys h = h.0
behind_middle p (x ∷ xs) y ys h = behind_middle p xs y ys h.1

behind_earlier : (p q : ℕ) (xs : List Leaf) → p ≤ q → AreBehind q xs → AreBehind p xs
behind_earlier p q [] le h = tt
behind_earlier p q (x ∷ xs) le h = let b : q < key x = h.0 in (omega arith, behind_earlier p q xs le h.1)

behind_elsewhere : (p q : ℕ) (xs : List Leaf) → p ≤ q → AreBehind q xs → AreElsewhere p xs
behind_elsewhere p q [] le h = tt
behind_elsewhere p q (x ∷ xs) le h = let b : q < key x = h.0 in (omega arith, behind_elsewhere p q xs le h.1)

before_elsewhere : (p q : ℕ) (xs : List Leaf) → q ≤ p → AreBefore q xs → AreElsewhere p xs
before_elsewhere p q [] le h = tt
before_elsewhere p q (x ∷ xs) le h = let b : key x < q = h.0 in (omega arith, before_elsewhere p q xs le h.1)

pub order_left : (xs : List Leaf) (y : Leaf) (ys : List Leaf) → IsInOrder (xs ++ y ∷ ys) → IsInOrder xs
order_left [] y ys h = tt
order_left (x ∷ xs) y ys h = (behind_front (key x) xs (y ∷ ys) h.0, order_left xs y ys h.1)

order_middle : (xs : List Leaf) (y : Leaf) (ys : List Leaf) → IsInOrder (xs ++ y ∷ ys) → AreBehind (key y) ys
order_middle [] y ys h = h.0
order_middle (x ∷ xs) y ys h = order_middle xs y ys h.1

pub order_right : (xs : List Leaf) (y : Leaf) (ys : List Leaf) → IsInOrder (xs ++ y ∷ ys) → IsInOrder ys
order_right [] y ys h = h.1
order_right (x ∷ xs) y ys h = order_right xs y ys h.1

order_before : (xs : List Leaf) (y : Leaf) (ys : List Leaf) → IsInOrder (xs ++ y ∷ ys) → AreBefore (key y) xs
order_before [] y ys h = tt
order_before (x ∷ xs) y ys h = (behind_middle (key x) xs y ys h.0, order_before xs y ys h.1)

-- where a leaf that comes in goes
pub with_leaf-left : (leaf : Leaf) (xs : List Leaf) (y : Leaf) (ys : List Leaf) → key leaf < key y → with_leaf leaf (xs ++ y ∷ ys) ≡ with_leaf leaf xs ++ y ∷ ys
with_leaf-left leaf [] y ys lt = rw (lt-ltb (key leaf) (key y) lt)
with_leaf-left leaf (x ∷ xs) y ys lt =
    elim (cases_lt (key leaf) (key x)) [
      | inl before ↦ rw (lt-ltb (key leaf) (key x) before)
      | inr behind ↦ rw (le-ltb (key leaf) (key x) behind) (ap (λ l. x ∷ l) (with_leaf-left leaf xs y ys lt))
    ]

with_leaf-later : (leaf x : Leaf) (xs : List Leaf) → key x ≤ key leaf → with_leaf leaf (x ∷ xs) ≡ x ∷ with_leaf leaf xs
with_leaf-later leaf x xs le = rw (le-ltb (key leaf) (key x) le)

with_leaf-behind : (leaf : Leaf) (xs : List Leaf) (y : Leaf) (ys : List Leaf) → key y ≤ key leaf → AreBefore (key y) xs → with_leaf leaf (xs ++ y ∷ ys) ≡ xs ++ y ∷ with_leaf leaf ys
with_leaf-behind leaf [] y ys le h = with_leaf-later leaf y ys le
with_leaf-behind leaf (x ∷ xs) y ys le h =
    let b : key x < key y = h.0 in
    with_leaf-later leaf x (xs ++ y ∷ ys) (omega arith) ∙ ap (λ l. x ∷ l) (with_leaf-behind leaf xs y ys le h.1)

pub with_leaf-right : (leaf : Leaf) (xs : List Leaf) (y : Leaf) (ys : List Leaf) → key y ≤ key leaf → IsInOrder (xs ++ y ∷ ys) → with_leaf leaf (xs ++ y ∷ ys) ≡ xs ++ y ∷ with_leaf leaf ys
with_leaf-right leaf xs y ys le h = with_leaf-behind leaf xs y ys le (order_before xs y ys h)

-- where no leaf stands in the key
without_leaf-elsewhere : (leaf : Leaf) (xs : List Leaf) → AreElsewhere (key leaf) xs → without_leaf leaf xs ≡ xs
without_leaf-elsewhere leaf [] h = refl
without_leaf-elsewhere leaf (x ∷ xs) h = rw (ne_eqb (key x) (key leaf) h.0) (ap (λ l. x ∷ l) (without_leaf-elsewhere leaf xs h.1))

leaf_at-elsewhere : (p : ℕ) (xs : List Leaf) → AreElsewhere p xs → leaf_at xs p ≡ None
leaf_at-elsewhere p [] h = refl
leaf_at-elsewhere p (x ∷ xs) h = rw (ne_eqb (key x) p h.0) (leaf_at-elsewhere p xs h.1)

elsewhere_right : (p : ℕ) (xs : List Leaf) (y : Leaf) (ys : List Leaf) → p < key y → IsInOrder (xs ++ y ∷ ys) → AreElsewhere p (y ∷ ys)
elsewhere_right p xs y ys lt h = (omega arith, behind_elsewhere p (key y) ys (omega arith) (order_middle xs y ys h))

elsewhere_left : (p : ℕ) (xs : List Leaf) (y : Leaf) (ys : List Leaf) → key y ≤ p → IsInOrder (xs ++ y ∷ ys) → AreElsewhere p xs
elsewhere_left p xs y ys le h = before_elsewhere p (key y) xs le (order_before xs y ys h)

pub without_leaf-left : (leaf : Leaf) (xs : List Leaf) (y : Leaf) (ys : List Leaf) → key leaf < key y → IsInOrder (xs ++ y ∷ ys) → without_leaf leaf (xs ++ y ∷ ys) ≡ without_leaf leaf xs ++ y ∷ ys
without_leaf-left leaf xs y ys lt h =
    filter-append (λ other. not (eqb (key other) (key leaf))) xs (y ∷ ys)
    ∙ ap (λ l. without_leaf leaf xs ++ l) (without_leaf-elsewhere leaf (y ∷ ys) (elsewhere_right (key leaf) xs y ys lt h))

pub without_leaf-right : (leaf : Leaf) (xs : List Leaf) (y : Leaf) (ys : List Leaf) → key y < key leaf → IsInOrder (xs ++ y ∷ ys) → without_leaf leaf (xs ++ y ∷ ys) ≡ xs ++ y ∷ without_leaf leaf ys
without_leaf-right leaf xs y ys lt h =
    let apart : key y ≢ key leaf = omega arith in
    let le : key y ≤ key leaf = omega arith in
    filter-append (λ other. not (eqb (key other) (key leaf))) xs (y ∷ ys)
    ∙ rw (ne_eqb (key y) (key leaf) apart) (ap (λ l. l ++ y ∷ without_leaf leaf ys) (without_leaf-elsewhere leaf xs (elsewhere_left (key leaf) xs y ys le h)))

pub without_leaf-middle : (leaf : Leaf) (xs : List Leaf) (y : Leaf) (ys : List Leaf) → key y ≡ key leaf → IsInOrder (xs ++ y ∷ ys) → without_leaf leaf (xs ++ y ∷ ys) ≡ xs ++ ys
without_leaf-middle leaf xs y ys same h =
    let le : key y ≤ key leaf = omega arith in
    let ge : key leaf ≤ key y = omega arith in
    let left : without_leaf leaf xs ≡ xs = without_leaf-elsewhere leaf xs (elsewhere_left (key leaf) xs y ys le h) in
    let right : without_leaf leaf ys ≡ ys = without_leaf-elsewhere leaf ys (behind_elsewhere (key leaf) (key y) ys ge (order_middle xs y ys h)) in
    filter-append (λ other. not (eqb (key other) (key leaf))) xs (y ∷ ys)
    ∙ rw (eq-eqb (key y) (key leaf) same) (ap (λ l. l ++ without_leaf leaf ys) left ∙ ap (λ l. xs ++ l) right)

or_none : {X : Type 0} (o : Option X) → option_or o None ≡ o
or_none None = refl
or_none (Some x) = refl

pub leaf_at-left : (p : ℕ) (xs : List Leaf) (y : Leaf) (ys : List Leaf) → p < key y → IsInOrder (xs ++ y ∷ ys) → leaf_at (xs ++ y ∷ ys) p ≡ leaf_at xs p
leaf_at-left p xs y ys lt h =
    find-append (λ leaf. eqb (key leaf) p) xs (y ∷ ys)
    ∙ ap (option_or (leaf_at xs p)) (leaf_at-elsewhere p (y ∷ ys) (elsewhere_right p xs y ys lt h))
    ∙ or_none (leaf_at xs p)

pub leaf_at-right : (p : ℕ) (xs : List Leaf) (y : Leaf) (ys : List Leaf) → key y < p → IsInOrder (xs ++ y ∷ ys) → leaf_at (xs ++ y ∷ ys) p ≡ leaf_at ys p
leaf_at-right p xs y ys lt h =
    let apart : key y ≢ p = omega arith in
    let le : key y ≤ p = omega arith in
    find-append (λ leaf. eqb (key leaf) p) xs (y ∷ ys)
    ∙ ap (λ o. option_or o (leaf_at (y ∷ ys) p)) (leaf_at-elsewhere p xs (elsewhere_left p xs y ys le h))
    ∙ rw (ne_eqb (key y) p apart) refl

-- what stays in order
behind_with : (p : ℕ) (leaf : Leaf) (xs : List Leaf) → p < key leaf → AreBehind p xs → AreBehind p (with_leaf leaf xs)
behind_with p leaf [] lt h = (lt, tt)
behind_with p leaf (x ∷ xs) lt h =
    elim (ltb (key leaf) (key x)) as (λ b. AreBehind p (cond b (leaf ∷ x ∷ xs) (x ∷ with_leaf leaf xs))) [
      | true ↦ (lt, h)
      | false ↦ (h.0, behind_with p leaf xs lt h.1)
    ]

pub leaf_at-cons : (x : Leaf) (xs : List Leaf) (p : ℕ) → leaf_at (x ∷ xs) p ≡ None → (key x ≢ p) × (leaf_at xs p ≡ None)
leaf_at-cons x xs p h =
    elim (eqb (key x) p) as (λ b. eqb (key x) p ≡ b → cond b (Some x) (leaf_at xs p) ≡ None → (key x ≢ p) × (leaf_at xs p ≡ None)) [
      | true ↦ λ _ absent. (cc)
      | false ↦ λ apart absent. (eqb-false (key x) p apart, absent)
    ] refl h

pub order_with : (leaf : Leaf) (xs : List Leaf) → IsInOrder xs → leaf_at xs (key leaf) ≡ None → IsInOrder (with_leaf leaf xs)
order_with leaf [] h absent = (tt, tt)
order_with leaf (x ∷ xs) h absent =
    let apart = leaf_at-cons x xs (key leaf) absent in
    let ne : key x ≢ key leaf = apart.0 in
    elim (cases_lt (key leaf) (key x)) [
      | inl before ↦ rw (lt-ltb (key leaf) (key x) before) ((before, behind_earlier (key leaf) (key x) xs (omega arith) h.0), h)
      | inr behind ↦ rw (le-ltb (key leaf) (key x) behind) (behind_with (key x) leaf xs (omega arith) h.0, order_with leaf xs h.1 apart.1)
    ]

behind_filter : (test : Leaf → Bool) (p : ℕ) (xs : List Leaf) → AreBehind p xs → AreBehind p (filter test xs)
behind_filter test p [] h = tt
behind_filter test p (x ∷ xs) h =
    elim (test x) as (λ b. AreBehind p (cond b (x ∷ filter test xs) (filter test xs))) [
      | true ↦ (h.0, behind_filter test p xs h.1)
      | false ↦ behind_filter test p xs h.1
    ]

pub order_filter : (test : Leaf → Bool) (xs : List Leaf) → IsInOrder xs → IsInOrder (filter test xs)
order_filter test [] h = tt
order_filter test (x ∷ xs) h =
    elim (test x) as (λ b. IsInOrder (cond b (x ∷ filter test xs) (filter test xs))) [
      | true ↦ (behind_filter test (key x) xs h.0, order_filter test xs h.1)
      | false ↦ order_filter test xs h.1
    ]

-- how long a chain is
pub length-with_leaf : (leaf : Leaf) (xs : List Leaf) → length (with_leaf leaf xs) ≡ length xs + 1
length-with_leaf leaf [] = refl
length-with_leaf leaf (x ∷ xs) =
    elim (ltb (key leaf) (key x)) as (λ b. length (cond b (leaf ∷ x ∷ xs) (x ∷ with_leaf leaf xs)) ≡ length (x ∷ xs) + 1) [
      | true ↦ omega arith
      | false ↦ omega (arith, length-with_leaf leaf xs)
    ]

pub length-without_leaf : (leaf : Leaf) (xs : List Leaf) → IsInOrder xs → IsSome (leaf_at xs (key leaf)) → length (without_leaf leaf xs) + 1 ≡ length xs
length-without_leaf leaf [] h there = absurd (cc)
length-without_leaf leaf (x ∷ xs) h there =
    elim (cases_order (key x) (key leaf)) [
      | inl same ↦
          let le : key leaf ≤ key x = omega arith in
          rw (eq-eqb (key x) (key leaf) same) (omega (arith, ap length (without_leaf-elsewhere leaf xs (behind_elsewhere (key leaf) (key x) xs le h.0))))
      | inr other ↦
          let apart : key x ≢ key leaf = elim other [ inl lt ↦ omega arith | inr gt ↦ omega arith ] in
          let rest : IsSome (leaf_at xs (key leaf)) = rw (ne_eqb (key x) (key leaf) apart) at there in
          rw (ne_eqb (key x) (key leaf) apart) (omega (arith, length-without_leaf leaf xs h.1 rest))
    ]

-- what stands in a key afterwards
pub leaf_at-with_leaf : (leaf : Leaf) (xs : List Leaf) → leaf_at xs (key leaf) ≡ None → leaf_at (with_leaf leaf xs) (key leaf) ≡ Some leaf
leaf_at-with_leaf leaf [] absent = rw (eq-eqb (key leaf) (key leaf) refl)
leaf_at-with_leaf leaf (x ∷ xs) absent =
    let apart = leaf_at-cons x xs (key leaf) absent in
    elim (cases_lt (key leaf) (key x)) [
      | inl before ↦ rw (lt-ltb (key leaf) (key x) before) (rw (eq-eqb (key leaf) (key leaf) refl))
      | inr behind ↦ rw (le-ltb (key leaf) (key x) behind) (rw (ne_eqb (key x) (key leaf) apart.0) (leaf_at-with_leaf leaf xs apart.1))
    ]

pub leaf_at-with_other : (leaf : Leaf) (xs : List Leaf) (q : ℕ) → q ≢ key leaf → leaf_at (with_leaf leaf xs) q ≡ leaf_at xs q
leaf_at-with_other leaf [] q other = let apart : key leaf ≢ q = omega arith in rw (ne_eqb (key leaf) q apart)
leaf_at-with_other leaf (x ∷ xs) q other =
    let apart : key leaf ≢ q = omega arith in
    elim (cases_lt (key leaf) (key x)) [
      | inl before ↦ rw (lt-ltb (key leaf) (key x) before) (rw (ne_eqb (key leaf) q apart))
      | inr behind ↦ rw (le-ltb (key leaf) (key x) behind) (ap (λ o. cond (eqb (key x) q) (Some x) o) (leaf_at-with_other leaf xs q other))
    ]

pub leaf_at-without_leaf : (leaf : Leaf) (xs : List Leaf) → leaf_at (without_leaf leaf xs) (key leaf) ≡ None
leaf_at-without_leaf leaf [] = refl
leaf_at-without_leaf leaf (x ∷ xs) =
    elim (eqb (key x) (key leaf)) as (λ b. eqb (key x) (key leaf) ≡ b → leaf_at (cond (not b) (x ∷ without_leaf leaf xs) (without_leaf leaf xs)) (key leaf) ≡ None) [
      | true ↦ λ _. leaf_at-without_leaf leaf xs
      | false ↦ λ apart. rw apart (leaf_at-without_leaf leaf xs)
    ] refl

pub leaf_at-without_other : (leaf : Leaf) (xs : List Leaf) (q : ℕ) → q ≢ key leaf → leaf_at (without_leaf leaf xs) q ≡ leaf_at xs q
leaf_at-without_other leaf [] q other = refl
leaf_at-without_other leaf (x ∷ xs) q other =
    elim (eqb (key x) (key leaf)) as (λ b. eqb (key x) (key leaf) ≡ b → leaf_at (cond (not b) (x ∷ without_leaf leaf xs) (without_leaf leaf xs)) q ≡ leaf_at (x ∷ xs) q) [
      | true ↦ λ same.
          let is : key x ≡ key leaf = eqb-true (key x) (key leaf) same in
          let apart : key x ≢ q = omega arith in
          rw (ne_eqb (key x) q apart) (leaf_at-without_other leaf xs q other)
      | false ↦ λ _. ap (λ o. cond (eqb (key x) q) (Some x) o) (leaf_at-without_other leaf xs q other)
    ] refl

-- the first leaf behind the one that was last
not_behind : (last : Option Leaf) (p : ℕ) (xs : List Leaf) (y : Leaf) → is_behind last y ≡ false → AreBefore (key y) xs → find (is_behind last) xs ≡ None
not_behind last p [] y fails h = refl
not_behind None p (x ∷ xs) y fails h = (cc)
not_behind (Some last) p (x ∷ xs) y fails h =
    let le : key y ≤ key last = ltb-false (key last) (key y) fails in
    let b : key x < key y = h.0 in
    rw (le-ltb (key last) (key x) (omega arith)) (not_behind (Some last) p xs y fails h.1)

pub find-behind_right : (last : Option Leaf) (xs : List Leaf) (y : Leaf) (ys : List Leaf) → is_behind last y ≡ false → IsInOrder (xs ++ y ∷ ys) → find (is_behind last) (xs ++ y ∷ ys) ≡ find (is_behind last) ys
find-behind_right last xs y ys fails h =
    find-append (is_behind last) xs (y ∷ ys)
    ∙ ap (λ o. option_or o (find (is_behind last) (y ∷ ys))) (not_behind last 0 xs y fails (order_before xs y ys h))
    ∙ rw fails refl

pub find-behind_left : (last : Option Leaf) (xs : List Leaf) (y : Leaf) (ys : List Leaf) → is_behind last y ≡ true → find (is_behind last) (xs ++ y ∷ ys) ≡ option_or (find (is_behind last) xs) (Some y)
find-behind_left last xs y ys passes = find-append (is_behind last) xs (y ∷ ys) ∙ rw passes refl

-- a walk from the one that was last on
pub all_behind : (xs : List Leaf) → filter (is_behind None) xs ≡ xs
all_behind [] = refl
all_behind (x ∷ xs) = ap (λ l. x ∷ l) (all_behind xs)

all_later : (last : Leaf) (p : ℕ) (xs : List Leaf) → key last ≤ p → AreBehind p xs → filter (is_behind (Some last)) xs ≡ xs
all_later last p [] le h = refl
all_later last p (x ∷ xs) le h =
    let b : p < key x = h.0 in
    let lt : key last < key x = omega arith in
    rw (lt-ltb (key last) (key x) lt) (ap (λ l. x ∷ l) (all_later last p xs le h.1))

first_later : (last : Option Leaf) (x : Leaf) (xs : List Leaf) → is_behind last x ≡ true → AreBehind (key x) xs → filter (is_behind last) xs ≡ xs
first_later None x xs passes h = all_behind xs
first_later (Some last) x xs passes h = let lt : key last < key x = ltb-true (key last) (key x) passes in all_later last (key x) xs (omega arith) h

-- the leaf that is found stands behind each that isn't behind the last one
found_behind : (last : Option Leaf) (xs : List Leaf) (leaf : Leaf) → find (is_behind last) xs ≡ Some leaf → is_behind last leaf ≡ true
found_behind last [] leaf found = (cc)
found_behind last (x ∷ xs) leaf found =
    elim (is_behind last x) as (λ b. is_behind last x ≡ b → cond b (Some x) (find (is_behind last) xs) ≡ Some leaf → is_behind last leaf ≡ true) [
      | true ↦ λ passes is. let same : x ≡ leaf = cc in subst (λ l. is_behind last l ≡ true) same passes
      | false ↦ λ _ is. found_behind last xs leaf is
    ] refl found

earlier_not_behind : (last : Option Leaf) (x leaf : Leaf) → is_behind last x ≡ false → is_behind last leaf ≡ true → key x ≤ key leaf
earlier_not_behind None x leaf fails passes = (cc)
earlier_not_behind (Some last) x leaf fails passes =
    let le : key x ≤ key last = ltb-false (key last) (key x) fails in
    let lt : key last < key leaf = ltb-true (key last) (key leaf) passes in
    omega arith

pub walk-next : (last : Option Leaf) (xs : List Leaf) (leaf : Leaf) → IsInOrder xs → find (is_behind last) xs ≡ Some leaf → filter (is_behind last) xs ≡ leaf ∷ filter (is_behind (Some leaf)) xs
walk-next last [] leaf h found = (cc)
walk-next last (x ∷ xs) leaf h found =
    elim (is_behind last x) as (λ b. is_behind last x ≡ b → cond b (Some x) (find (is_behind last) xs) ≡ Some leaf → cond b (x ∷ filter (is_behind last) xs) (filter (is_behind last) xs) ≡ leaf ∷ filter (is_behind (Some leaf)) (x ∷ xs)) [
      | true ↦ λ passes is.
          let same : x ≡ leaf = cc in
          let le : key x ≤ key x = omega arith in
          subst (λ l. x ∷ filter (is_behind last) xs ≡ l ∷ filter (is_behind (Some l)) (x ∷ xs)) same
          (rw (le-ltb (key x) (key x) le) (ap (λ l. x ∷ l) (first_later last x xs passes h.0 ∙ sym (all_later x (key x) xs le h.0))))
      | false ↦ λ fails is.
          let le : key x ≤ key leaf = earlier_not_behind last x leaf fails (found_behind last xs leaf is) in
          rw (le-ltb (key leaf) (key x) le) (walk-next last xs leaf h.1 is)
    ] refl found

pub walk-end : (test : Leaf → Bool) (xs : List Leaf) → find test xs ≡ None → filter test xs ≡ []
walk-end test [] none = refl
walk-end test (x ∷ xs) none =
    elim (test x) as (λ b. cond b (Some x) (find test xs) ≡ None → cond b (x ∷ filter test xs) (filter test xs) ≡ []) [
      | true ↦ λ is. (cc)
      | false ↦ λ is. walk-end test xs is
    ] none

-- a chain itself has each of its leaves once
behind_at : (p : ℕ) (xs : List Leaf) (k : ℕ) (d : Leaf) → k < length xs → AreBehind p xs → p < key (get_or xs k d)
behind_at p [] k d within h = absurd (omega arith)
behind_at p (x ∷ xs) zero d within h = h.0
behind_at p (x ∷ xs) (suc k) d within h = behind_at p xs k d (omega arith) h.1

leaf_at-item : (xs : List Leaf) (k : ℕ) (d : Leaf) → k < length xs → IsInOrder xs → leaf_at xs (key (get_or xs k d)) ≡ Some (get_or xs k d)
leaf_at-item [] k d within h = absurd (omega arith)
leaf_at-item (x ∷ xs) zero d within h = rw (eq-eqb (key x) (key x) refl)
leaf_at-item (x ∷ xs) (suc k) d within h =
    let small : k < length xs = omega arith in
    let lt : key x < key (get_or xs k d) = behind_at (key x) xs k d small h.0 in
    let apart : key x ≢ key (get_or xs k d) = omega arith in
    rw (ne_eqb (key x) (key (get_or xs k d)) apart) (leaf_at-item xs k d small h.1)

later_contains : (x : Leaf) (xs : List Leaf) (o : Option Leaf) → IfSome o (Contains xs) → IfSome o (Contains (x ∷ xs))
later_contains x xs None h = tt
later_contains x xs (Some y) h = (suc h.0, (let in' : h.0 < length xs = h.1 in omega arith), h.2)

find-contains : (test : Leaf → Bool) (xs : List Leaf) → IfSome (find test xs) (Contains xs)
find-contains test [] = tt
find-contains test (x ∷ xs) =
    elim (test x) as (λ b. IfSome (cond b (Some x) (find test xs)) (Contains (x ∷ xs))) [
      | true ↦ (0, omega arith, refl)
      | false ↦ later_contains x xs (find test xs) (find-contains test xs)
    ]

pub each_once : (xs : List Leaf) → IsInOrder xs → HasEachOnce xs xs
each_once xs h = record { each = λ p. find-contains (λ leaf. eqb (key leaf) p) xs; no_other = λ k d within. leaf_at-item xs k d within h; once = h }
