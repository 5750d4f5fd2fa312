-- A dword of a page, after another or itself was written.
use Rattle.std.proofs.Common.{◌≡◌, ◌≢◌, ℕ, suc, zero, ◌+◌, ◌*◌, ◌/◌, ◌%◌, ◌^◌, ◌<◌, Bool, true, false, cond, eqb, List, length, get_or, refl, ap, sym, ◌∙◌, arith, lit<, get_or-set_same, get_or-set_other}
use Rattle.std.proofs.lemmas.List.{length-set}
use Rattle.std.proofs.lemmas.Bool.{eqb-true}
use Rattle.std.proofs.lemmas.Bool.Decides.{nat_tests}
use Rattle.gv_types.specs.Memory.{with_half}
use Rattle.gv_gpu.specs.Context.{field_dwords}
use Rattle.gv_sctx.specs.Image.{page_dword, with_dword}

-- so many fields of a place among the dwords of a page, in order
unfoldable pub fields_in : List ℕ → List ℕ → ℕ → List ℕ
fields_in words fields zero = words
fields_in words fields (suc n) = with_dword (fields_in words fields n) (get_or field_dwords n 0) (get_or fields n 0)

-- and one of its dwords then
abbrev pub field_in : ℕ → List ℕ → ℕ → ℕ → ℕ
field_in old fields zero m = old
field_in old fields (suc n) m = cond (eqb m (get_or field_dwords n 0)) (get_or fields n 0) (field_in old fields n m)

abbrev half_by : Bool → ℕ → ℕ
half_by low word = cond low (word % 2 ^ 32) (word / 2 ^ 32)

abbrev with_half_by : Bool → ℕ → ℕ → ℕ
with_half_by low word value = cond low (word / 2 ^ 32 * 2 ^ 32 + value) (value * 2 ^ 32 + word % 2 ^ 32)

own_half : (low : Bool) (word value : ℕ) → value < 2 ^ 32 → half_by low (with_half_by low word value) ≡ value
own_half true word value h = omega arith
own_half false word value h = omega arith

other_half : (a b : Bool) (word value : ℕ) → a ≢ b → value < 2 ^ 32 → half_by a (with_half_by b word value) ≡ half_by a word
other_half true true word value differ h = absurd (differ refl)
other_half true false word value differ h = omega arith
other_half false true word value differ h = omega arith
other_half false false word value differ h = absurd (differ refl)

is_low : ℕ → Bool
is_low n = eqb (4 * n % 8) 0

lows : (m n : ℕ) (a b : Bool) → eqb (4 * m % 8) 0 ≡ a → eqb (4 * n % 8) 0 ≡ b → a ≡ b → m / 2 ≡ n / 2 → m ≡ n
lows m n true true one two same half = grind (arith, nat_tests)
lows m n true false one two same half = cc
lows m n false true one two same half = cc
lows m n false false one two same half = grind (arith, nat_tests)

module _ (words : List ℕ) (n value : ℕ) (within : n / 2 < length words) (small : value < 2 ^ 32) where
  at-own : page_dword (with_dword words n value) n ≡ value
  at-own = ap (half_by (eqb (4 * n % 8) 0)) (get_or-set_same words (n / 2) (with_half (get_or words (n / 2) 0) (4 * n) value) 0 within) ∙ own_half (eqb (4 * n % 8) 0) (get_or words (n / 2) 0) value small

  by-word : (m : ℕ) → m ≢ n → (b : Bool) → eqb (m / 2) (n / 2) ≡ b → page_dword (with_dword words n value) m ≡ page_dword words m
  by-word m differ true is =
      let same : m / 2 ≡ n / 2 = eqb-true (m / 2) (n / 2) is in
      let apart : eqb (4 * m % 8) 0 ≢ eqb (4 * n % 8) 0 = (λ e. differ (lows m n (eqb (4 * m % 8) 0) (eqb (4 * n % 8) 0) refl refl e same)) in
      ap (λ k. half_by (eqb (4 * m % 8) 0) (get_or (with_dword words n value) k 0)) same
      ∙ ap (half_by (eqb (4 * m % 8) 0)) (get_or-set_same words (n / 2) (with_half (get_or words (n / 2) 0) (4 * n) value) 0 within)
      ∙ other_half (eqb (4 * m % 8) 0) (eqb (4 * n % 8) 0) (get_or words (n / 2) 0) value apart small
      ∙ sym (ap (λ k. half_by (eqb (4 * m % 8) 0) (get_or words k 0)) same)
  by-word m differ false is =
      let apart : m / 2 ≢ n / 2 = grind (arith, nat_tests) in
      ap (half_by (eqb (4 * m % 8) 0)) (get_or-set_other words (n / 2) (m / 2) (with_half (get_or words (n / 2) 0) (4 * n) value) 0 apart)

  by-place : (m : ℕ) (b : Bool) → eqb m n ≡ b → page_dword (with_dword words n value) m ≡ cond b value (page_dword words m)
  by-place m true is = ap (page_dword (with_dword words n value)) (eqb-true m n is) ∙ at-own
  by-place m false is = let differ : m ≢ n = grind (arith, nat_tests) in by-word m differ (eqb (m / 2) (n / 2)) refl

  pub dword-after : (m : ℕ) → page_dword (with_dword words n value) m ≡ cond (eqb m n) value (page_dword words m)
  dword-after m = by-place m (eqb m n) refl

-- the fields of a place stand among the first 24 dwords
low_dwords : (n : ℕ) → get_or field_dwords n 0 / 2 < 512
low_dwords zero = lit< tt
low_dwords (suc zero) = lit< tt
low_dwords (suc (suc zero)) = lit< tt
low_dwords (suc (suc (suc zero))) = lit< tt
low_dwords (suc (suc (suc (suc zero)))) = lit< tt
low_dwords (suc (suc (suc (suc (suc zero))))) = lit< tt
low_dwords (suc (suc (suc (suc (suc (suc zero)))))) = lit< tt
low_dwords (suc (suc (suc (suc (suc (suc (suc n))))))) = lit< tt

module _ (words fields : List ℕ) (long : length words ≡ 512) (small : (k : ℕ) → get_or fields k 0 < 2 ^ 32) where
  pub length-fields : (n : ℕ) → length (fields_in words fields n) ≡ 512
  unfolding fields_in
  length-fields zero = long
  length-fields (suc n) = length-set (fields_in words fields n) (get_or field_dwords n 0 / 2) _ ∙ length-fields n

  pub fields-after : (n m : ℕ) → page_dword (fields_in words fields n) m ≡ field_in (page_dword words m) fields n m
  unfolding fields_in
  fields-after zero m = refl
  fields-after (suc n) m =
      let within : get_or field_dwords n 0 / 2 < length (fields_in words fields n) = let l = length-fields n in let s = low_dwords n in omega arith in
      dword-after (fields_in words fields n) (get_or field_dwords n 0) (get_or fields n 0) within (small n) m
      ∙ ap (cond (eqb m (get_or field_dwords n 0)) (get_or fields n 0)) (fields-after n m)
