-- The chain of the entries that pass a test, as entries are set.
use Rattle.std.proofs.Common.{◌≡◌, ℕ, ◌+◌, ◌*◌, ◌/◌, ◌%◌, ◌<◌, List, [], ◌∷◌, Bool, true, false, cond, eqb, zero, suc, length, get_or, set, count_by, None, IsSome, refl, ap, sym, ◌∙◌, subst, zero-add, arith}
use Rattle.std.specs.Prelude.{nat_lt, All, Contains}
use Rattle.std.proofs.lemmas.Bool.Decides.{nat_tests}
use Rattle.std.proofs.lemmas.List.Elements.{All-nil, All-cons, All-weaker}
use Rattle.std.proofs.lemmas.List.Sums.{sum_by-cons}
use Rattle.gv_rmap.specs.declared.leaf.Leaf.{Leaf}
use Rattle.gv_rmap.specs.Leaves.{key, leaf_at, with_leaf, without_leaf}
use Rattle.gv_sggtt.specs.Linked.{leaf_of, leaves_from}

-- a slot has a leaf of its own, and they stand in the order of the slots
before : (a b : ℕ) → a < b → key (leaf_of a) < key (leaf_of b)
before a b h = omega arith

behind_tests : (a b : ℕ) → a < b → (nat_lt (key (leaf_of a)) (key (leaf_of b)) ≡ true) × (eqb (key (leaf_of b)) (key (leaf_of a)) ≡ false)
behind_tests a b h = let o = before a b h in (grind (arith, nat_tests), grind (arith, nat_tests))

front_tests : (a b : ℕ) → a < b → (nat_lt (key (leaf_of b)) (key (leaf_of a)) ≡ false) × (eqb (key (leaf_of a)) (key (leaf_of b)) ≡ false)
front_tests a b h = let o = before a b h in (grind (arith, nat_tests), grind (arith, nat_tests))

same_test : (a : ℕ) → eqb (key (leaf_of a)) (key (leaf_of a)) ≡ true
same_test a = grind (arith, nat_tests)

choose : {A : Type 0} (P : A → Type 0) (b : Bool) (x y : A) → P x → P y → P (cond b x y)
choose P true x y p q = p
choose P false x y p q = q

both : {A B : Type 0} (P : A → B → Type 0) (b : Bool) (x y : A) (v w : B) → P x v → P y w → P (cond b x y) (cond b v w)
both P true x y v w p q = p
both P false x y v w p q = q

further : (k i : ℕ) → k + suc i ≡ k + 1 + i
further k i = omega arith

here : (k : ℕ) → k + 0 ≡ k
here k = omega arith

-- the slot of a leaf
pub slot-back : (i : ℕ) → i / 512 * 512 + i % 512 ≡ i
slot-back i = omega arith

pub leaf-once : (i j : ℕ) → leaf_of i ≡ leaf_of j → i ≡ j
leaf-once i j same = sym (slot-back i) ∙ ap (λ (leaf : Leaf). leaf.page * 512 + leaf.index) same ∙ slot-back j

module _ (test : ℕ → Bool) where
  -- a leaf that stands before all of a chain
  with-first : (a k : ℕ) (entries : List ℕ) → a < k → with_leaf (leaf_of a) (leaves_from k test entries) ≡ leaf_of a ∷ leaves_from k test entries
  with-first a k [] h = refl
  with-first a k (entry ∷ entries) h =
      let rest = with-first a (k + 1) entries (omega arith) in
      choose (λ l. with_leaf (leaf_of a) l ≡ leaf_of a ∷ l) (test entry) (leaf_of k ∷ leaves_from (k + 1) test entries) (leaves_from (k + 1) test entries) (rw ((behind_tests a k h).0) refl) rest

  without-first : (a k : ℕ) (entries : List ℕ) → a < k → without_leaf (leaf_of a) (leaves_from k test entries) ≡ leaves_from k test entries
  without-first a k [] h = refl
  without-first a k (entry ∷ entries) h =
      let rest = without-first a (k + 1) entries (omega arith) in
      choose (λ l. without_leaf (leaf_of a) l ≡ l) (test entry) (leaf_of k ∷ leaves_from (k + 1) test entries) (leaves_from (k + 1) test entries) (rw ((behind_tests a k h).1) (ap (λ l. leaf_of k ∷ l) rest)) rest

  none-first : (a k : ℕ) (entries : List ℕ) → a < k → leaf_at (leaves_from k test entries) (key (leaf_of a)) ≡ None
  none-first a k [] h = refl
  none-first a k (entry ∷ entries) h =
      let rest = none-first a (k + 1) entries (omega arith) in
      choose (λ l. leaf_at l (key (leaf_of a)) ≡ None) (test entry) (leaf_of k ∷ leaves_from (k + 1) test entries) (leaves_from (k + 1) test entries) (rw ((behind_tests a k h).1) rest) rest

  -- an entry that passes comes where none did
  with-set_from : (k i : ℕ) (entries : List ℕ) (value : ℕ) → i < length entries → test (get_or entries i 0) ≡ false → test value ≡ true → with_leaf (leaf_of (k + i)) (leaves_from k test entries) ≡ leaves_from k test (set entries i value)
  with-set_from k i [] value h fails passes = absurd (omega arith)
  with-set_from k zero (entry ∷ entries) value h fails passes = rw (here k, fails, passes) (with-first k (k + 1) entries (omega arith))
  with-set_from k (suc i) (entry ∷ entries) value h fails passes =
      let rest = with-set_from (k + 1) i entries value (omega arith) fails passes in
      let tests = front_tests k (k + 1 + i) (omega arith) in
      rw further (both (λ l m. with_leaf (leaf_of (k + 1 + i)) l ≡ m) (test entry) (leaf_of k ∷ leaves_from (k + 1) test entries) (leaves_from (k + 1) test entries) (leaf_of k ∷ leaves_from (k + 1) test (set entries i value)) (leaves_from (k + 1) test (set entries i value)) (rw (tests.0) (ap (λ l. leaf_of k ∷ l) rest)) rest)

  -- one that doesn't pass comes where another was
  without-set_from : (k i : ℕ) (entries : List ℕ) (value : ℕ) → test value ≡ false → without_leaf (leaf_of (k + i)) (leaves_from k test entries) ≡ leaves_from k test (set entries i value)
  without-set_from k i [] value fails = refl
  without-set_from k zero (entry ∷ entries) value fails =
      let rest = without-first k (k + 1) entries (omega arith) in
      rw (here k, fails) (choose (λ l. without_leaf (leaf_of k) l ≡ leaves_from (k + 1) test entries) (test entry) (leaf_of k ∷ leaves_from (k + 1) test entries) (leaves_from (k + 1) test entries) (rw (same_test k) rest) rest)
  without-set_from k (suc i) (entry ∷ entries) value fails =
      let rest = without-set_from (k + 1) i entries value fails in
      let tests = front_tests k (k + 1 + i) (omega arith) in
      rw further (both (λ l m. without_leaf (leaf_of (k + 1 + i)) l ≡ m) (test entry) (leaf_of k ∷ leaves_from (k + 1) test entries) (leaves_from (k + 1) test entries) (leaf_of k ∷ leaves_from (k + 1) test (set entries i value)) (leaves_from (k + 1) test (set entries i value)) (rw (tests.1) (ap (λ l. leaf_of k ∷ l) rest)) rest)

  -- one comes that passes just as the other did
  pub same-set : (k i : ℕ) (entries : List ℕ) (value : ℕ) → test value ≡ test (get_or entries i 0) → leaves_from k test (set entries i value) ≡ leaves_from k test entries
  same-set k i [] value same = refl
  same-set k zero (entry ∷ entries) value same = ap (λ b. cond b (leaf_of k ∷ leaves_from (k + 1) test entries) (leaves_from (k + 1) test entries)) same
  same-set k (suc i) (entry ∷ entries) value same = ap (λ l. cond (test entry) (leaf_of k ∷ l) l) (same-set (k + 1) i entries value same)

  -- whether the chain has a slot
  none-at_from : (k i : ℕ) (entries : List ℕ) → test (get_or entries i 0) ≡ false → leaf_at (leaves_from k test entries) (key (leaf_of (k + i))) ≡ None
  none-at_from k i [] fails = refl
  none-at_from k zero (entry ∷ entries) fails = rw (here k, fails) (none-first k (k + 1) entries (omega arith))
  none-at_from k (suc i) (entry ∷ entries) fails =
      let rest = none-at_from (k + 1) i entries fails in
      let tests = front_tests k (k + 1 + i) (omega arith) in
      rw further (choose (λ l. leaf_at l (key (leaf_of (k + 1 + i))) ≡ None) (test entry) (leaf_of k ∷ leaves_from (k + 1) test entries) (leaves_from (k + 1) test entries) (rw (tests.1) rest) rest)

  some-at_from : (k i : ℕ) (entries : List ℕ) → i < length entries → test (get_or entries i 0) ≡ true → IsSome (leaf_at (leaves_from k test entries) (key (leaf_of (k + i))))
  some-at_from k i [] h passes = absurd (omega arith)
  some-at_from k zero (entry ∷ entries) h passes = rw (here k, passes, same_test k) refl
  some-at_from k (suc i) (entry ∷ entries) h passes =
      let rest = some-at_from (k + 1) i entries (omega arith) passes in
      let tests = front_tests k (k + 1 + i) (omega arith) in
      rw further (choose (λ l. IsSome (leaf_at l (key (leaf_of (k + 1 + i))))) (test entry) (leaf_of k ∷ leaves_from (k + 1) test entries) (leaves_from (k + 1) test entries) (rw (tests.1) rest) rest)

  pub length-leaves : (k : ℕ) (entries : List ℕ) → length (leaves_from k test entries) ≡ count_by test entries
  length-leaves k [] = refl
  length-leaves k (entry ∷ entries) =
      let rest = length-leaves (k + 1) entries in
      both (λ l n. length l ≡ n + count_by test entries) (test entry) (leaf_of k ∷ leaves_from (k + 1) test entries) (leaves_from (k + 1) test entries) 1 0 (omega arith) (omega arith)
      ∙ sym (sum_by-cons (λ x. cond (test x) 1 0) entry entries)

  pub with-set : (i : ℕ) (entries : List ℕ) (value : ℕ) → i < length entries → test (get_or entries i 0) ≡ false → test value ≡ true → with_leaf (leaf_of i) (leaves_from 0 test entries) ≡ leaves_from 0 test (set entries i value)
  with-set i entries value h fails passes = rw zero-add at (with-set_from 0 i entries value h fails passes)

  pub without-set : (i : ℕ) (entries : List ℕ) (value : ℕ) → test value ≡ false → without_leaf (leaf_of i) (leaves_from 0 test entries) ≡ leaves_from 0 test (set entries i value)
  without-set i entries value fails = rw zero-add at (without-set_from 0 i entries value fails)

  pub none-at : (i : ℕ) (entries : List ℕ) → test (get_or entries i 0) ≡ false → leaf_at (leaves_from 0 test entries) (key (leaf_of i)) ≡ None
  none-at i entries fails = rw zero-add at (none-at_from 0 i entries fails)

  pub some-at : (i : ℕ) (entries : List ℕ) → i < length entries → test (get_or entries i 0) ≡ true → IsSome (leaf_at (leaves_from 0 test entries) (key (leaf_of i)))
  some-at i entries h passes = rw zero-add at (some-at_from 0 i entries h passes)

  contains_from : (k i : ℕ) (entries : List ℕ) → i < length entries → test (get_or entries i 0) ≡ true → Contains (leaves_from k test entries) (leaf_of (k + i))
  contains_from k i [] h passes = absurd (omega arith)
  contains_from k zero (entry ∷ entries) h passes = rw (here k, passes) (0, omega arith, refl)
  contains_from k (suc i) (entry ∷ entries) h passes =
      let rest = contains_from (k + 1) i entries (omega arith) passes in
      subst (λ p. Contains (leaves_from k test (entry ∷ entries)) (leaf_of p)) (sym (further k i)) (choose (λ l. Contains l (leaf_of (k + 1 + i))) (test entry) (leaf_of k ∷ leaves_from (k + 1) test entries) (leaves_from (k + 1) test entries) (suc rest.0, omega (arith, rest.1), rest.2) rest)

  -- each entry that passes has its leaf there
  pub contains-leaf : (i : ℕ) (entries : List ℕ) → i < length entries → test (get_or entries i 0) ≡ true → Contains (leaves_from 0 test entries) (leaf_of i)
  contains-leaf i entries h passes = rw zero-add at (contains_from 0 i entries h passes)

  -- a leaf of an entry that passes
  abbrev IsOf : ℕ → List ℕ → Leaf → Type 0
  IsOf k entries leaf = (i : ℕ) × (leaf ≡ leaf_of (k + i)) × (i < length entries) × (test (get_or entries i 0) ≡ true)

  later : (k entry : ℕ) (entries : List ℕ) (leaf : Leaf) → IsOf (k + 1) entries leaf → IsOf k (entry ∷ entries) leaf
  later k entry entries leaf p = (suc (p.0), p.1 ∙ ap leaf_of (sym (further k (p.0))), omega (arith, p.2), p.3)

  at_head : (k entry : ℕ) (entries : List ℕ) (b : Bool) → test entry ≡ b → All (IsOf k (entry ∷ entries)) (leaves_from (k + 1) test entries) → All (IsOf k (entry ∷ entries)) (cond b (leaf_of k ∷ leaves_from (k + 1) test entries) (leaves_from (k + 1) test entries))
  at_head k entry entries true is rest =
      let head : IsOf k (entry ∷ entries) (leaf_of k) = (0, ap leaf_of (sym (here k)), omega arith, is) in
      All-cons (IsOf k (entry ∷ entries)) (leaf_of k) (leaves_from (k + 1) test entries) head rest
  at_head k entry entries false is rest = rest

  all_from : (k : ℕ) (entries : List ℕ) → All (IsOf k entries) (leaves_from k test entries)
  all_from k [] = All-nil (IsOf k [])
  all_from k (entry ∷ entries) =
      at_head k entry entries (test entry) refl (All-weaker (IsOf (k + 1) entries) (IsOf k (entry ∷ entries)) (later k entry entries) (leaves_from (k + 1) test entries) (all_from (k + 1) entries))

  abbrev pub IsLeafOf : List ℕ → Leaf → Type 0
  IsLeafOf entries leaf = (i : ℕ) × (leaf ≡ leaf_of i) × (i < length entries) × (test (get_or entries i 0) ≡ true)

  from_first : (entries : List ℕ) (leaf : Leaf) → IsOf 0 entries leaf → IsLeafOf entries leaf
  from_first entries leaf p = (p.0, p.1 ∙ ap leaf_of (zero-add (p.0)), p.2, p.3)

  -- and no other has one
  pub all-leaves : (entries : List ℕ) → All (IsLeafOf entries) (leaves_from 0 test entries)
  all-leaves entries = All-weaker (IsOf 0 entries) (IsLeafOf entries) (from_first entries) (leaves_from 0 test entries) (all_from 0 entries)
