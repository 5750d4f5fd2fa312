-- No word of a report holds a space or a line feed.
use Rattle.std.proofs.Common.{◌≡◌, ℕ, zero, suc, ◌+◌, ◌%◌, ◌/◌, ◌<◌, Bool, true, false, not, ◌&&◌, List, [], ◌∷◌, ◌++◌, map, eqb, ltb, refl, ap, ◌∙◌, arith}
use Rattle.std.proofs.lemmas.Bool.{cond_both, ne_eqb, and_parts}
use Rattle.std.specs.List.{list_all, join_with_byte}
use Rattle.std.specs.Fmt.{digits, digits_onto, digit_glyph}
use Rattle.gv_types.specs.declared.event.Width.{Width}
use Rattle.gv_types.specs.declared.event.Width.TheVariants.{Four, Eight}
use Rattle.gv_types.specs.declared.event.Place.{Place}
use Rattle.gv_types.specs.declared.event.Place.TheVariants as places
use Rattle.gv_types.specs.declared.reply.Reason.{Reason}
use Rattle.gv_types.specs.declared.reply.Reason.TheVariants as reasons
use Rattle.gv_text.specs.Report.{hex, read_word, reason_word, moved_word, report_words, line_text}
use Rattle.gv_text.specs.declared.report_line.ReportLine.{ReportLine}
use Rattle.gv_text.specs.declared.report_line.ReportLine.TheVariants.{Read, Irq, Failsafe, Turn, Rota, Move, Reset, Memory, Done, Refused, TooLong, Lines, Bytes, Fold}

-- neither a line feed nor a space
abbrev pub is_word_byte : ℕ → Bool
is_word_byte b = not (eqb b 10) && not (eqb b 32)

abbrev pub is_word : List ℕ → Bool
is_word w = list_all is_word_byte w

both : {a b : Bool} → a ≡ true → b ≡ true → (a && b) ≡ true
both {a} {b} first second = ap (λ x. x && b) first ∙ second

above_space : (b : ℕ) → 32 < b → is_word_byte b ≡ true
above_space b above = both (ap not (ne_eqb b 10 (λ e. omega arith))) (ap not (ne_eqb b 32 (λ e. omega arith)))

glyph_is_word_byte : (d : ℕ) → is_word_byte (digit_glyph false d) ≡ true
glyph_is_word_byte d = cond_both (ltb d 10) (48 + d) (87 + d) (λ b. is_word_byte b ≡ true) (λ _. above_space (48 + d) (omega arith)) (λ _. above_space (87 + d) (omega arith))

digits_are_word : (k n : ℕ) (acc : List ℕ) → is_word acc ≡ true → is_word (digits_onto k 16 false n acc) ≡ true
digits_are_word zero n acc plain = plain
digits_are_word (suc k) n acc plain =
    let more = both (glyph_is_word_byte (n % 16)) plain in
    cond_both (eqb (n / 16) 0) (digit_glyph false (n % 16) ∷ acc) (digits_onto k 16 false (n / 16) (digit_glyph false (n % 16) ∷ acc)) (λ ds. is_word ds ≡ true)
    (λ _. more)
    (λ _. digits_are_word k (n / 16) (digit_glyph false (n % 16) ∷ acc) more)

pub hex_is_word : (n : ℕ) → is_word (hex n) ≡ true
unfolding digits
hex_is_word n = digits_are_word 64 n [] refl

hexes_are_words : (ns : List ℕ) → list_all is_word (map hex ns) ≡ true
hexes_are_words [] = refl
hexes_are_words (n ∷ ns) = both (hex_is_word n) (hexes_are_words ns)

read_word_is_word : (place : Place) (width : Width) → is_word (read_word place width) ≡ true
read_word_is_word places.Memory Four = refl
read_word_is_word places.Memory Eight = refl
read_word_is_word places.Registers Four = refl
read_word_is_word places.Registers Eight = refl
read_word_is_word places.Aperture Four = refl
read_word_is_word places.Aperture Eight = refl

reason_word_is_word : (reason : Reason) → is_word (reason_word reason) ≡ true
reason_word_is_word reasons.Command = refl
reason_word_is_word reasons.Range = refl
reason_word_is_word reasons.Context = refl
reason_word_is_word reasons.Size = refl
reason_word_is_word reasons.Entry = refl

moved_word_is_word : (moved : Bool) → is_word (moved_word moved) ≡ true
moved_word_is_word true = refl
moved_word_is_word false = refl

pub words_are_words : (line : ReportLine) → list_all is_word (report_words line) ≡ true
words_are_words (Read guest place width at value) = both (hex_is_word guest.0) (both (read_word_is_word place width) (both (hex_is_word at) (both (hex_is_word value) refl)))
words_are_words (Irq guest value) = both (hex_is_word guest.0) (both (hex_is_word value) refl)
words_are_words (Failsafe guest reason) = both (hex_is_word guest.0) (both (reason_word_is_word reason) refl)
words_are_words (Turn guest engine counts) = both (hex_is_word guest.0) (both (hex_is_word engine.0) (hexes_are_words counts))
words_are_words (Rota engine guest) = both (hex_is_word engine.0) (both (hex_is_word guest.0) refl)
words_are_words (Move guest frame moved) = both (hex_is_word guest.0) (both (hex_is_word frame) (both (moved_word_is_word moved) refl))
words_are_words (Reset guest) = both (hex_is_word guest.0) refl
words_are_words (Memory guest at value) = both (hex_is_word guest.0) (both (hex_is_word at) (both (hex_is_word value) refl))
words_are_words Done = refl
words_are_words (Refused number) = both (hex_is_word number) refl
words_are_words TooLong = refl
words_are_words (Lines count) = both (hex_is_word count) refl
words_are_words (Bytes count) = both (hex_is_word count) refl
words_are_words (Fold value) = both (hex_is_word value) refl

-- no byte of a line's text is a line feed
abbrev pub has_no_line_feed : List ℕ → Bool
has_no_line_feed text = list_all (λ b. not (eqb b 10)) text

word_has_no_line_feed : (w : List ℕ) → is_word w ≡ true → has_no_line_feed w ≡ true
word_has_no_line_feed [] plain = refl
word_has_no_line_feed (b ∷ w) plain =
    let parts = and_parts (is_word_byte b) (is_word w) plain in
    both (and_parts (not (eqb b 10)) (not (eqb b 32)) parts.0).0 (word_has_no_line_feed w parts.1)

has_no_line_feed-append : (xs ys : List ℕ) → has_no_line_feed xs ≡ true → has_no_line_feed ys ≡ true → has_no_line_feed (xs ++ ys) ≡ true
has_no_line_feed-append [] ys first second = second
has_no_line_feed-append (x ∷ xs) ys first second =
    let parts = and_parts (not (eqb x 10)) (has_no_line_feed xs) first in
    both parts.0 (has_no_line_feed-append xs ys parts.1 second)

joined_has_no_line_feed : (ws : List (List ℕ)) → list_all is_word ws ≡ true → has_no_line_feed (join_with_byte 32 ws) ≡ true
joined_has_no_line_feed [] plain = refl
joined_has_no_line_feed (w ∷ []) plain = word_has_no_line_feed w (and_parts (is_word w) true plain).0
joined_has_no_line_feed (w ∷ v ∷ ws) plain =
    let parts = and_parts (is_word w) (list_all is_word (v ∷ ws)) plain in
    has_no_line_feed-append w (32 ∷ join_with_byte 32 (v ∷ ws)) (word_has_no_line_feed w parts.0) (joined_has_no_line_feed (v ∷ ws) parts.1)

pub line_text_has_no_line_feed : (line : ReportLine) → has_no_line_feed (line_text line) ≡ true
line_text_has_no_line_feed line = joined_has_no_line_feed (report_words line) (words_are_words line)
