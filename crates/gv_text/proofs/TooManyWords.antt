-- No line has more than 19 words.
use Rattle.std.proofs.Common.{◌≡◌, ℕ, suc, ◌<◌, List, [], ◌∷◌, Option, Some, None, Bool, false, length, refl, ap, arith, IfSome, nat_le, ◌&&◌}
use Rattle.gv_types.specs.declared.event.Width.{Width}
use Rattle.gv_types.specs.declared.event.Place.{Place}
use Rattle.std.proofs.lemmas.Bool.Decides.{nat_tests}
use Rattle.gv_text.specs.Number.{◌>>=◌, number_below, provided}
use Rattle.gv_text.specs.Grammar.{value_limit, values_of, address_of, write_access, write_line, more_words, line_of_words}
use Rattle.gv_text.specs.declared.script_line.Line.{Line}

module _ {A B : Type 0} where
  bind_none : (P : A → Type 0) (o : Option A) (f : A → Option B) → IfSome o P → ((x : A) → P x → f x ≡ None) → (o >>= f) ≡ None
  bind_none P None f h none = refl
  bind_none P (Some x) f h none = none x h

  always_none : (o : Option A) (f : A → Option B) → ((x : A) → f x ≡ None) → (o >>= f) ≡ None
  always_none None f none = refl
  always_none (Some x) f none = none x

longer : (o : Option ℕ) (vs : Option (List ℕ)) (n : ℕ) → IfSome vs (λ vs. length vs ≡ n) → IfSome (o >>= λ v. vs >>= λ vs. Some (v ∷ vs)) (λ vs. length vs ≡ suc n)
longer None vs n h = tt
longer (Some v) None n h = tt
longer (Some v) (Some vs) n h = ap suc h

pub length-values_of : (width : Width) (ws : List (List ℕ)) → IfSome (values_of width ws) (λ vs. length vs ≡ length ws)
length-values_of width [] = refl
length-values_of width (w ∷ ws) = longer (number_below (value_limit width) w) (values_of width ws) (length ws) (length-values_of width ws)

many_refused : (vs : List ℕ) (b : Bool) (line : Line) → 16 < length vs → provided (nat_le (length vs) 16 && b) line ≡ None
many_refused vs b line many =
    let test : nat_le (length vs) 16 ≡ false = grind (arith, nat_tests) in
    ap (λ t. provided (t && b) line) test

write_line-many : (place : Place) (width : Width) (g a : List ℕ) (ws : List (List ℕ)) → 16 < length ws → write_line place width g a ws ≡ None
write_line-many place width g a ws many =
    always_none (number_below 8 g) _ (λ guest.
    always_none (address_of place width a) _ (λ at.
    bind_none (λ vs. length vs ≡ length ws) (values_of width ws) _ (length-values_of width ws) (λ vs same.
    many_refused vs _ _ (omega arith))))

more_words-many : (w g a : List ℕ) (vs : List (List ℕ)) → 16 < length vs → more_words w g a vs ≡ None
more_words-many w g a vs many = always_none (write_access w) _ (λ (place, width). write_line-many place width g a vs many)

pub line_of_words-many : (ws : List (List ℕ)) → 19 < length ws → line_of_words ws ≡ None
line_of_words-many [] many = absurd (omega arith)
line_of_words-many (a ∷ []) many = absurd (omega arith)
line_of_words-many (a ∷ b ∷ []) many = absurd (omega arith)
line_of_words-many (a ∷ b ∷ c ∷ []) many = absurd (omega arith)
line_of_words-many (a ∷ b ∷ c ∷ d ∷ []) many = absurd (omega arith)
line_of_words-many (a ∷ b ∷ c ∷ d ∷ e ∷ []) many = absurd (omega arith)
line_of_words-many (a ∷ b ∷ c ∷ d ∷ e ∷ f ∷ ws) many = more_words-many a b c (d ∷ e ∷ f ∷ ws) (omega arith)
