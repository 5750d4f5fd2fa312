-- A piece of a list, and what is left behind it.
use Rattle.std.proofs.Common.{Option, Some, None, ◌≡◌, ℕ, ◌+◌, ◌-◌, ◌<◌, ◌≤◌, List, [], ◌++◌, length, take, drop, sym, ap, ◌∙◌, arith, min, IfSome, refl}
use Rattle.std.specs.Io.KnownBytes.{Consumes}
use Rattle.std.proofs.lemmas.List.{drop-take, take-take, take_at, take-append-drop, drop-drop, length-take-le, length-drop, drop_all, drop_at}

-- the n bytes at `at`, read into the front of a buffer, and what is left
pub taken : (bytes x y : List ℕ) (at n : ℕ) → x ≡ take n (drop at bytes) → at + n ≤ length bytes → drop at bytes ≡ take n (x ++ y) ++ drop (at + n) bytes
taken bytes x y at n is within =
    let long : n ≤ length (drop at bytes) = simp length-drop (omega arith) in
    let len : length x ≡ n = ap length is ∙ length-take-le n (drop at bytes) long in
    sym (ap (λ z. z ++ drop (at + n) bytes) (take_at x y n len ∙ is) ∙ ap (λ z. take n (drop at bytes) ++ z) (sym (drop-drop n at bytes)) ∙ take-append-drop n (drop at bytes))

-- a call that gives nothing although it has room is at the end
pub empty_end : (bytes : List ℕ) (at n room most : ℕ) → n ≡ min (min room most) (length bytes - at) → 0 < most → 0 < room → n ≡ 0 → drop (at + n) bytes ≡ []
empty_end bytes at n room most is some has_room zero = drop_all (at + n) bytes (omega arith)

-- two fronts of a text, one behind the other
pub front_more : (at n : ℕ) (text : List ℕ) → take at text ++ take n (drop at text) ≡ take (at + n) text
front_more at n text = sym (λ i. take-take at (at + n) text (omega arith) i ++ drop-take at n text i) ∙ take-append-drop at (take (at + n) text)

-- what is left behind the bytes that a source has given
pub left_behind : (a b : Option (List ℕ)) (given : List ℕ) → Consumes a b given → IfSome a (λ bytes. b ≡ Some (drop (length given) bytes))
left_behind None b given h = tt
left_behind (Some x) None given h = absurd h
left_behind (Some x) (Some y) given h = ap Some (sym (ap (drop (length given)) h ∙ drop_at given y (length given) refl))

-- some front was taken
pub Consumes-front : (a b : Option (List ℕ)) (given : List ℕ) (limit : ℕ) → Consumes a b given → length given ≤ limit → (n : ℕ) × (n ≤ limit) × IfSome a (λ bytes. b ≡ Some (drop n bytes))
Consumes-front a b given limit h bound = (length given, bound, left_behind a b given h)
