-- The lines of a text of report lines, and which of them are a guest's.
use Rattle.std.proofs.Common.{◌≡◌, ◌≢◌, ℕ, ◌+◌, ◌<◌, Bool, true, false, not, List, [], ◌∷◌, ◌++◌, length, map, filter, take, eqb, cond, codes, refl, ap, sym, ◌∙◌, arith, one-add}
use Rattle.std.proofs.lemmas.Bool.{not-true, lt-ltb, and_parts}
use Rattle.std.proofs.lemmas.Bool.Decides.{nat_tests}
use Rattle.std.proofs.lemmas.List.{append_assoc, append-nil}
use Rattle.std.proofs.lemmas.List.Splits.{slice_split-cons_no}
use Rattle.std.proofs.lemmas.Grind.{flat_map-append}
use Rattle.std.proofs.lemmas.Fmt.{hex_one_digit}
use Rattle.std.specs.Cmp.Lexicographic.{unequal}
use Rattle.std.specs.List.{slice_split, onto_first, before_first, position_or_len, flat_map, AllByRecursion}
use Rattle.std.specs.Str.{bytes_eq}
use Rattle.std.proofs.Math.Bool.{and-true}
use Rattle.gv_text.specs.Grammar.{is_space}
use Rattle.gv_text.specs.Script.{is_line_feed, is_last_line, lines_of_parts, lines_of}
use Rattle.gv_text.specs.Report.{hex, line_text, report_text, text_of, IsPrintable}
use Rattle.gv_text.specs.Guest.{begins_with_guest, lines_of_guest, speaks_of, LinesAreTheTexts, LinesNameTheirGuest}
use Rattle.gv_text.specs.declared.report_line.ReportLine.{ReportLine}
use Rattle.gv_text.specs.declared.report_line.ReportLine.TheVariants.{Read, Irq, Failsafe, Turn, Rota, Move, Reset, Memory, Done, Refused, TooLong, Lines, Bytes, Fold}
use Rattle.gv_text.proofs.LineParts.{lines_of_parts-more}
use Rattle.gv_text.proofs.WordBytes.{is_word_byte, is_word, has_no_line_feed, hex_is_word, line_text_has_no_line_feed}
use Rattle.std.proofs.lemmas.List.Splits.{length-slice_split}

pub text_of-none : text_of [] ≡ []
unfolding text_of
text_of-none = refl

pub text_of-cons : (line : ReportLine) (lines : List ReportLine) → text_of (line ∷ lines) ≡ report_text line ++ text_of lines
unfolding text_of
text_of-cons line lines = refl

pub text_of-one : (line : ReportLine) → text_of (line ∷ []) ≡ report_text line
unfolding text_of
text_of-one line = append-nil (report_text line)

pub text_of-append : (xs ys : List ReportLine) → text_of (xs ++ ys) ≡ text_of xs ++ text_of ys
unfolding text_of
text_of-append xs ys = flat_map-append report_text xs ys

-- a text up to its first line feed is a part
split_line : (body rest : List ℕ) → has_no_line_feed body ≡ true → slice_split is_line_feed (body ++ 10 ∷ rest) ≡ body ∷ slice_split is_line_feed rest
split_line [] rest plain = refl
split_line (b ∷ body) rest plain =
    let parts = and_parts (not (eqb b 10)) (has_no_line_feed body) plain in
    slice_split-cons_no is_line_feed b (body ++ 10 ∷ rest) (not-true (eqb b 10) parts.0)
    ∙ ap (onto_first b) (split_line body rest parts.1)

pub lines_of-text_of : LinesAreTheTexts
unfolding text_of report_text
lines_of-text_of [] = refl
lines_of-text_of (line ∷ lines) =
    ap (λ text. lines_of is_last_line text) (append_assoc (line_text line) (10 ∷ []) (text_of lines))
    ∙ ap (lines_of_parts is_last_line) (split_line (line_text line) (text_of lines) (line_text_has_no_line_feed line))
    ∙ lines_of_parts-more is_last_line (line_text line) (slice_split is_line_feed (text_of lines)) (omega (arith, length-slice_split is_line_feed (text_of lines)))
    ∙ ap (λ texts. line_text line ∷ texts) (lines_of-text_of lines)

-- the first word of several
first_word : (w rest : List ℕ) → is_word w ≡ true → before_first is_space (w ++ 32 ∷ rest) ≡ w
first_word [] rest plain = refl
first_word (b ∷ w) rest plain =
    let parts = and_parts (is_word_byte b) (is_word w) plain in
    let no_space = (and_parts (not (eqb b 10)) (not (eqb b 32)) parts.0).1 in
    let more = position_or_len is_space (w ++ 32 ∷ rest) in
    ap (λ t. take (cond t (1 + more) 0) (b ∷ w ++ 32 ∷ rest)) no_space
    ∙ ap (λ n. take n (b ∷ w ++ 32 ∷ rest)) (one-add more)
    ∙ ap (λ v. b ∷ v) (first_word w rest parts.1)

digit : (n : ℕ) → n < 8 → hex n ≡ (48 + n) ∷ []
digit n small = hex_one_digit false n (omega arith) ∙ ap (λ t. cond t (48 + n) (87 + n) ∷ []) (lt-ltb n 10 (omega arith))

same_digit : (a b : ℕ) → eqb (48 + a) (48 + b) ≡ eqb a b
same_digit a b = grind (arith, nat_tests)

same_guest : (a b : ℕ) → a < 8 → b < 8 → bytes_eq (hex a) (hex b) ≡ eqb a b
same_guest a b small_a small_b =
    ap (λ w. bytes_eq w (hex b)) (digit a small_a)
    ∙ ap (bytes_eq ((48 + a) ∷ [])) (digit b small_b)
    ∙ and-true (eqb (48 + a) (48 + b))
    ∙ same_digit a b

abbrev with_line_feed : List ℕ → List ℕ
with_line_feed text = text ++ 10 ∷ []

-- one line of several, where t says whether it is chosen
one_line : (t : Bool) (line : ReportLine) (texts : List (List ℕ)) (lines : List ReportLine) → flat_map with_line_feed texts ≡ text_of lines → flat_map with_line_feed (cond t (line_text line ∷ texts) texts) ≡ text_of (cond t (line ∷ lines) lines)
unfolding text_of report_text
one_line true line texts lines same = ap (λ more. with_line_feed (line_text line) ++ more) same
one_line false line texts lines same = same

module _ (g : ℕ) (small : g < 8) where
  -- a line that begins with a guest's number
  of_guest : (guest : ℕ) (rest : List ℕ) → guest < 8 → begins_with_guest g (hex guest ++ 32 ∷ rest) ≡ eqb guest g
  of_guest guest rest there = ap (λ w. bytes_eq w (hex g)) (first_word (hex guest) rest (hex_is_word guest)) ∙ same_guest guest g there small

  -- a line that begins with another word
  of_none : (w : List ℕ) → length w ≢ 1 → bytes_eq w (hex g) ≡ false
  of_none w long = unequal eqb w (hex g) (λ same. long (same ∙ ap length (digit g small)))

  begins_where_it_speaks : (line : ReportLine) → IsPrintable line → begins_with_guest g (line_text line) ≡ speaks_of g line
  begins_where_it_speaks (Read guest place width at value) there = of_guest guest.0 _ there
  begins_where_it_speaks (Irq guest value) there = of_guest guest.0 _ there
  begins_where_it_speaks (Failsafe guest reason) there = of_guest guest.0 _ there
  begins_where_it_speaks (Turn guest engine counts) there = of_guest guest.0 _ there.0
  begins_where_it_speaks (Rota engine guest) there = of_none (codes "rota") (λ e. omega arith)
  begins_where_it_speaks (Move guest frame moved) there = of_guest guest.0 _ there
  begins_where_it_speaks (Reset guest) there = of_guest guest.0 _ there
  begins_where_it_speaks (Memory guest at value) there = of_guest guest.0 _ there
  begins_where_it_speaks Done there = of_none (codes "done") (λ e. omega arith)
  begins_where_it_speaks (Refused number) there = of_none (codes "refused") (λ e. omega arith)
  begins_where_it_speaks TooLong there = of_none (codes "too") (λ e. omega arith)
  begins_where_it_speaks (Lines count) there = of_none (codes "lines") (λ e. omega arith)
  begins_where_it_speaks (Bytes count) there = of_none (codes "bytes") (λ e. omega arith)
  begins_where_it_speaks (Fold value) there = of_none (codes "fold") (λ e. omega arith)

  chosen : (lines : List ReportLine) → AllByRecursion IsPrintable lines → flat_map with_line_feed (filter (begins_with_guest g) (map line_text lines)) ≡ text_of (filter (speaks_of g) lines)
  chosen [] printable = sym text_of-none
  chosen (line ∷ lines) printable =
      let texts = filter (begins_with_guest g) (map line_text lines) in
      ap (λ t. flat_map with_line_feed (cond t (line_text line ∷ texts) texts)) (begins_where_it_speaks line printable.0)
      ∙ one_line (speaks_of g line) line texts (filter (speaks_of g) lines) (chosen lines printable.1)

pub lines_of_guest-text_of : LinesNameTheirGuest
unfolding lines_of_guest
lines_of_guest-text_of g lines small printable =
    ap (λ texts. flat_map with_line_feed (filter (begins_with_guest g) texts)) (lines_of-text_of lines)
    ∙ chosen g small lines printable
