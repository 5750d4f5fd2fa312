-- The number that a text spells, as the text is read.
use Rattle.std.proofs.Common.{◌≡◌, ℕ, ◌<◌, ◌^◌, Bool, true, false, ◌&&◌, List, [], ◌∷◌, Option, Some, None, Result, Ok, Err, length, refl, ap, sym, subst, ◌∙◌, if◌then◌else◌, nat_lt, inl, inr}
use Rattle.std.proofs.lemmas.Bool.{ltb-true, lt-ltb, cases_Bool, both_ways, and_parts, and_from}
use Rattle.std.specs.List.{list_all}
use Rattle.std.specs.Char.{digit_value}
use Rattle.std.specs.Str.Parse.{digits_value, without_leading_plus, AllDigits, IsNumeral, ParsesUnsigned}
use Rattle.std.specs.Prelude.{option_and_then}
use Rattle.clap.specs.Matches.{ReadsOne}
use Rattle.clap.specs.ValueTests.{is_numeral}
use Rattle.gv_words.specs.Task.{number_spelled}

all_digits : (ds : List ℕ) → list_all (λ d. nat_lt (digit_value d) 10) ds ≡ true → AllDigits 10 ds
all_digits [] is = tt
all_digits (d ∷ ds) is = let parts = and_parts (nat_lt (digit_value d) 10) (list_all (λ d. nat_lt (digit_value d) 10) ds) is in (ltb-true (digit_value d) 10 parts.0, all_digits ds parts.1)

each_digit : (ds : List ℕ) → AllDigits 10 ds → list_all (λ d. nat_lt (digit_value d) 10) ds ≡ true
each_digit [] h = refl
each_digit (d ∷ ds) h = and_from (nat_lt (digit_value d) 10) (list_all (λ d. nat_lt (digit_value d) 10) ds) (lt-ltb (digit_value d) 10 h.0) (each_digit ds h.1)

module _ (text : List ℕ) where
  digits : List ℕ
  digits = without_leading_plus text

  fits : Bool
  fits = is_numeral digits && nat_lt (digits_value 10 digits) (2 ^ 32)

  fits_from : IsNumeral 10 digits × (digits_value 10 digits < 2 ^ 32) → fits ≡ true
  unfolding fits
  fits_from (numeral, small) =
      and_from (is_numeral digits) (nat_lt (digits_value 10 digits) (2 ^ 32))
      (and_from (nat_lt 0 (length digits)) (list_all (λ d. nat_lt (digit_value d) 10) digits) (lt-ltb 0 (length digits) numeral.0) (each_digit digits numeral.1))
      (lt-ltb (digits_value 10 digits) (2 ^ 32) small)

  from_fits : fits ≡ true → IsNumeral 10 digits × (digits_value 10 digits < 2 ^ 32)
  unfolding fits
  from_fits is =
      let parts = and_parts (is_numeral digits) (nat_lt (digits_value 10 digits) (2 ^ 32)) is in
      let numeral = and_parts (nat_lt 0 (length digits)) (list_all (λ d. nat_lt (digit_value d) 10) digits) parts.0 in
      ((ltb-true 0 (length digits) numeral.0, all_digits digits numeral.1), ltb-true (digits_value 10 digits) (2 ^ 32) parts.1)

  chosen : (b : Bool) → fits ≡ b → number_spelled text ≡ (if b then Some (digits_value 10 digits) else None)
  unfolding fits digits
  chosen b is = ap (λ b. if b then Some (digits_value 10 (without_leading_plus text)) else None) is

  pub spelled : (E : Type 0) (v : ℕ) → ParsesUnsigned {E = E} 32 10 text (Ok v) → number_spelled text ≡ Some v
  unfolding digits
  spelled E v (holds, is) = chosen true (fits_from holds) ∙ ap (λ n. Some n) (sym is)

  pub not_spelled : {E : Type 0} (e : E) → ParsesUnsigned 32 10 text (Err e) → number_spelled text ≡ None
  unfolding digits
  not_spelled e refused = elim (cases_Bool fits) [ inl is ↦ absurd (refused (from_fits is)) | inr fails ↦ chosen false fails ]

  pub reads_spelled : ReadsOne (λ u (r : Result ℕ (Unit {0})). ParsesUnsigned 32 10 u r) text (number_spelled text)
  unfolding digits
  reads_spelled = elim (cases_Bool fits) [
    | inl is ↦ subst (ReadsOne (λ u (r : Result ℕ (Unit {0})). ParsesUnsigned 32 10 u r) text) (sym (chosen true is)) (from_fits is, refl)
    | inr fails ↦ subst (ReadsOne (λ u (r : Result ℕ (Unit {0})). ParsesUnsigned 32 10 u r) text) (sym (chosen false fails)) (tt, λ holds. both_ways fits fails (fits_from holds))
  ]

-- what reads a text's number, where there is a text
module _ {E : Type 0} (gives : List ℕ → Result ℕ E → Type 0) (parses : (text : List ℕ) (r : Result ℕ E) → gives text r → ParsesUnsigned 32 10 text r) where
  read_text : (text : List ℕ) (r : Option ℕ) → ReadsOne gives text r → r ≡ number_spelled text
  read_text text (Some v) reads = sym (spelled text E v (parses text (Ok v) reads))
  read_text text None reads = sym (not_spelled text reads.0 (parses text (Err reads.0) reads.1))

  pub read_number : (o : Option (List ℕ)) (r : Option ℕ) → (o ≡ None → r ≡ None) → ((text : List ℕ) → o ≡ Some text → ReadsOne gives text r) → r ≡ option_and_then number_spelled o
  read_number None r none reads = none refl
  read_number (Some text) r none reads = read_text text r (reads text refl)
