-- What a search of a list finds.
use Rattle.std.proofs.Common.{◌≡◌, ℕ, zero, suc, ◌+◌, ◌<◌, Bool, true, false, cond, List, [], ◌∷◌, map, Option, Some, None, refl, ap, ◌∙◌, subst, arith}
use Rattle.std.proofs.lemmas.Bool.{and_parts}
use Rattle.std.specs.List.{find, list_all, range_with_len}
use Rattle.std.specs.Option.{option_map}

first_by : {A : Type 0} (p test : A → Bool) (y x : A) (rest : Option A) (here : Bool) → p y ≡ here → test y ≡ true → cond here (Some y) rest ≡ Some x → (rest ≡ Some x → (p x ≡ true) × (test x ≡ true)) → (p x ≡ true) × (test x ≡ true)
first_by p test y x rest true passes all is later = let same : y ≡ x = cc in (subst (λ z. p z ≡ true) same passes, subst (λ z. test z ≡ true) same all)
first_by p test y x rest false passes all is later = later is

-- what is found passes, and has what all have
pub found : {A : Type 0} (p test : A → Bool) (xs : List A) (x : A) → list_all test xs ≡ true → find p xs ≡ Some x → (p x ≡ true) × (test x ≡ true)
found p test [] x all is = cc
found p test (y ∷ xs) x all is =
    let parts = and_parts (test y) (list_all test xs) all in
    first_by p test y x (find p xs) (p y) refl parts.0 is (found p test xs x parts.1)

mapped_by : {A B : Type 0} (f : A → B) (x : A) (rest : Option A) (here : Bool) → cond here (Some (f x)) (option_map f rest) ≡ option_map f (cond here (Some x) rest)
mapped_by f x rest true = refl
mapped_by f x rest false = refl

pub find-map : {A B : Type 0} (p : B → Bool) (f : A → B) (xs : List A) → find p (map f xs) ≡ option_map f (find (λ x. p (f x)) xs)
find-map p f [] = refl
find-map p f (x ∷ xs) = ap (cond (p (f x)) (Some (f x))) (find-map p f xs) ∙ mapped_by f x (find (λ y. p (f y)) xs) (p (f x))

by_test : {A : Type 0} (x : A) (rest : Option A) (here : Bool) → here ≡ false → cond here (Some x) rest ≡ rest
by_test x rest here fails = rw fails refl

-- where a fact of each element keeps it from passing, nothing is found
pub find-none : {A : Type 0} (p test : A → Bool) (xs : List A) → ((x : A) → test x ≡ true → p x ≡ false) → list_all test xs ≡ true → find p xs ≡ None
find-none p test [] fails all = refl
find-none p test (x ∷ xs) fails all =
    let parts = and_parts (test x) (list_all test xs) all in
    by_test x (find p xs) (p x) (fails x parts.0) ∙ find-none p test xs fails parts.1

-- what holds of each number of a range
pub at_number : (test : ℕ → Bool) (a n k : ℕ) → list_all test (range_with_len a n) ≡ true → k < n → test (a + k) ≡ true
at_number test a zero k all below = absurd (omega arith)
at_number test a (suc n) zero all below = let e : a ≡ a + 0 = omega arith in subst (λ m. test m ≡ true) e (and_parts (test a) (list_all test (range_with_len (a + 1) n)) all).0
at_number test a (suc n) (suc k) all below =
    let e : a + 1 + k ≡ a + suc k = omega arith in
    subst (λ m. test m ≡ true) e (at_number test (a + 1) n k (and_parts (test a) (list_all test (range_with_len (a + 1) n)) all).1 (omega arith))
