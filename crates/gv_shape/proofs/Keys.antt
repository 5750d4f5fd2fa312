-- Split keys, as they are listed.
use Rattle.std.proofs.Common.{ℕ, zero, suc, ◌+◌, ◌≤◌, ◌<◌, ◌≡◌, Bool, true, false, not, ◌&&◌, ◌||◌, eqb, cond, List, length, refl, ap, ◌∙◌, arith, ⊎_elim}
use Rattle.std.specs.List.{list_any, range_with_len, flat_map}
use Rattle.std.proofs.lemmas.Bool.{eqb-true, eq-eqb, and_parts, cases_eq}
use Rattle.std.proofs.lemmas.Map.Views.{any-filter_same}
use Rattle.gv_types.specs.Memory.{Memory}
use Rattle.gv_entry.specs.declared.process.Process.TheVariants.{Large}
use Rattle.gv_entry.specs.Tables.{names_large, SplitKey, keys_of, split_keys}
use Rattle.gv_shape.specs.Shadow.{is_split}

-- The split keys are listed: a key is among them exactly where a live table of level 2 names it.
abbrev pub is_key : ℕ → Bool → SplitKey → Bool
is_key b w key = names_large b w (Large key.base key.writable)

key_in : (b : ℕ) (w : Bool) (a n : ℕ) → a ≤ b → b < a + n → list_any (is_key b w) (flat_map keys_of (range_with_len a n)) ≡ true
key_in b w a zero low high = absurd (omega arith)
key_in b w a (suc n) low high = ⊎_elim
    (λ same. here w (list_any (is_key b w) (flat_map keys_of (range_with_len (a + 1) n))) (eq-eqb a b same))
    (λ other. later w (eqb a b) (list_any (is_key b w) (flat_map keys_of (range_with_len (a + 1) n))) (key_in b w (a + 1) n (omega (arith, other)) (omega arith)))
    (cases_eq a b)
  where
    here : (w : Bool) (rest : Bool) → eqb a b ≡ true → ((eqb a b && cond w false (not false)) || ((eqb a b && cond w true (not true)) || rest)) ≡ true
    here true rest e = rw e refl
    here false rest e = rw e refl

    later : (w e rest : Bool) → rest ≡ true → ((e && cond w false (not false)) || ((e && cond w true (not true)) || rest)) ≡ true
    later true true rest h = refl
    later false true rest h = refl
    later true false rest h = h
    later false false rest h = h

pub key-listed : (m : Memory) (roots : List ℕ) (b : ℕ) (w : Bool) → b < length m → list_any (is_key b w) (split_keys m roots) ≡ is_split m roots b w
key-listed m roots b w low =
    any-filter_same (is_key b w) (λ (key : SplitKey). is_split m roots key.base key.writable) (is_split m roots b w) same (flat_map keys_of (range_with_len 0 (length m)))
    ∙ ap (λ x. is_split m roots b w && x) (key_in b w 0 (length m) (omega arith) (omega arith)) ∙ and_true (is_split m roots b w)
  where
    and_true : (x : Bool) → (x && true) ≡ x
    and_true true = refl
    and_true false = refl

    flag_is : (w v : Bool) → cond w v (not v) ≡ true → v ≡ w
    flag_is true true e = refl
    flag_is true false e = cc
    flag_is false true e = cc
    flag_is false false e = refl

    same : (key : SplitKey) → is_key b w key ≡ true → is_split m roots key.base key.writable ≡ is_split m roots b w
    same key is = let both = and_parts (eqb key.base b) (cond w key.writable (not key.writable)) is in (λ i. is_split m roots (eqb-true key.base b both.0 i) (flag_is w key.writable both.1 i))
