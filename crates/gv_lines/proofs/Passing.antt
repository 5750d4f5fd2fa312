-- Bytes that pass through a writer to a sink, or into totals.
use Rattle.std.proofs.Common.{◌≡◌, ℕ, ◌+◌, ◌≤◌, List, [], ◌∷◌, ◌++◌, Option, length, take, drop, refl, ap, sym, ◌∙◌, arith, subst, length-append, length-drop}
use Rattle.std.specs.Io.KnownBytes.{Appends}
use Rattle.std.proofs.KnownBytes.{Appends-nil, Appends-trans}
use Rattle.std.proofs.lemmas.List.{drop-drop, take-append-le, drop-append-le}
use Rattle.gv_outside.proofs.Pieces.{front_more}
use Rattle.gv_lines.specs.Outlet.{Delivery, in_sink, in_totals, Gets, Passes}
use Rattle.gv_lines.specs.Summary.{totals_after, after_byte}
use Rattle.gv_lines.specs.Writer.{PassesOn}
use Rattle.gv_lines.specs.declared.totals.Totals.{Totals}

-- ---- what was got

-- the totals of bytes and then of more are those of both
pub totals-more : (t : Totals) (xs ys : List ℕ) → totals_after t (xs ++ ys) ≡ totals_after (totals_after t xs) ys
totals-more t [] ys = refl
totals-more t (x ∷ xs) ys = totals-more (after_byte t x) xs ys

pub gets-none : (a : Delivery) → Gets a a []
gets-none (in_sink held) = Appends-nil held
gets-none (in_totals totals held) = (refl, refl)

pub gets-more : (a b c : Delivery) (xs ys : List ℕ) → Gets a b xs → Gets b c ys → Gets a c (xs ++ ys)
gets-more (in_sink a) (in_sink b) (in_sink c) xs ys first second = Appends-trans a b c xs ys first second
gets-more (in_sink a) (in_sink b) (in_totals t c) xs ys first second = absurd second
gets-more (in_sink a) (in_totals s b) c xs ys first second = absurd first
gets-more (in_totals r a) (in_totals s b) (in_totals t c) xs ys first second =
    (second.0 ∙ ap (λ (s : Totals). totals_after s ys) first.0 ∙ sym (totals-more r xs ys), second.1 ∙ first.1)
gets-more (in_totals r a) (in_totals s b) (in_sink c) xs ys first second = absurd second
gets-more (in_totals r a) (in_sink b) c xs ys first second = absurd first

-- ---- what passes

pub passes-none : (bytes : List ℕ) (a : Delivery) → Passes bytes bytes a a
passes-none bytes a = record { count = 0; within = omega arith; written = gets-none a; rest = refl }

-- more of what is held passes
pub passes-step : (bytes held : List ℕ) (a b c : Delivery) (n : ℕ) → Passes bytes held a b → n ≤ length held → Gets b c (take n held) → Passes bytes (drop n held) a c
passes-step bytes held a b c n first few more =
    let m = first.count in
    let rest = first.rest in
    let appended = subst (λ l. Gets b c (take n l)) rest more in
    record {
      count = m + n;
      within = omega (arith, first.within, subst (λ l. n ≤ length l) rest few, length-drop m bytes);
      written = subst (Gets a c) (front_more m n bytes) (gets-more a b c (take m bytes) (take n (drop m bytes)) first.written appended);
      rest = ap (drop n) rest ∙ drop-drop n m bytes;
    }

-- more bytes are held
pub passes-more : (bytes held more : List ℕ) (a b : Delivery) → Passes bytes held a b → Passes (bytes ++ more) (held ++ more) a b
passes-more bytes held more a b first = record {
  count = first.count;
  within = omega (arith, first.within, length-append bytes more);
  written = subst (Gets a b) (sym (take-append-le first.count bytes more first.within)) first.written;
  rest = ap (λ l. l ++ more) first.rest ∙ sym (drop-append-le first.count bytes more first.within);
}

pub passes-trans : (x y z : List ℕ) (a b c : Delivery) → Passes x y a b → Passes y z b c → Passes x z a c
passes-trans x y z a b c first second = subst (λ l. Passes x l a c) (sym second.rest) (passes-step x y a b c second.count first second.within second.written)

-- ---- the same over a sink

pub PassesOn-none : (bytes : List ℕ) (a : Option (List ℕ)) → PassesOn bytes bytes a a
PassesOn-none bytes a = passes-none bytes (in_sink a)

pub PassesOn-step : (bytes held : List ℕ) (a b c : Option (List ℕ)) (n : ℕ) → PassesOn bytes held a b → n ≤ length held → Appends b c (take n held) → PassesOn bytes (drop n held) a c
PassesOn-step bytes held a b c n first few more = passes-step bytes held (in_sink a) (in_sink b) (in_sink c) n first few more

pub PassesOn-more : (bytes held more : List ℕ) (a b : Option (List ℕ)) → PassesOn bytes held a b → PassesOn (bytes ++ more) (held ++ more) a b
PassesOn-more bytes held more a b first = passes-more bytes held more (in_sink a) (in_sink b) first

pub PassesOn-trans : (x y z : List ℕ) (a b c : Option (List ℕ)) → PassesOn x y a b → PassesOn y z b c → PassesOn x z a c
PassesOn-trans x y z a b c first second = passes-trans x y z (in_sink a) (in_sink b) (in_sink c) first second
