-- The lines of a report. Numbers are hexadecimal, without leading zeros.
use Rattle.std.specs.Prelude.{ℕ, ◌<◌, List, [], ◌∷◌, ◌++◌, codes, Bool, true, false, map}
use Rattle.std.specs.List.{join_with_byte, flat_map}
use Rattle.std.specs.Fmt.{digits}
use Rattle.gv_types.specs.declared.event.Width.{Width}
use Rattle.gv_types.specs.declared.event.Width.TheVariants.{Four, Eight}
use Rattle.gv_types.specs.declared.event.Place.{Place}
use Rattle.gv_types.specs.declared.event.Place.TheVariants as places
use Rattle.gv_types.specs.declared.reply.Reason.{Reason}
use Rattle.gv_types.specs.declared.reply.Reason.TheVariants as reasons
use Rattle.gv_text.specs.declared.report_line.ReportLine.{ReportLine}
use Rattle.gv_text.specs.declared.report_line.ReportLine.TheVariants.{Read, Irq, Failsafe, Turn, Rota, Move, Reset, Memory, Done, Refused, TooLong, Lines, Bytes, Fold}

abbrev pub hex : ℕ → List ℕ
hex n = digits 16 false n

-- how the word of an access begins, by its place
abbrev pub read_word : Place → Width → List ℕ
read_word places.Memory Four = codes "r4"
read_word places.Memory Eight = codes "r8"
read_word places.Registers Four = codes "i4"
read_word places.Registers Eight = codes "i8"
read_word places.Aperture Four = codes "a4"
read_word places.Aperture Eight = codes "a8"

abbrev pub reason_word : Reason → List ℕ
reason_word reasons.Command = codes "command"
reason_word reasons.Range = codes "range"
reason_word reasons.Context = codes "context"
reason_word reasons.Size = codes "size"
reason_word reasons.Entry = codes "entry"

abbrev pub moved_word : Bool → List ℕ
moved_word true = codes "moved"
moved_word false = codes "kept"

abbrev pub report_words : ReportLine → List (List ℕ)
report_words (Read guest place width at value) = hex guest.0 ∷ read_word place width ∷ hex at ∷ hex value ∷ []
report_words (Irq guest value) = hex guest.0 ∷ codes "irq" ∷ hex value ∷ []
report_words (Failsafe guest reason) = hex guest.0 ∷ codes "failsafe" ∷ reason_word reason ∷ []
report_words (Turn guest engine counts) = hex guest.0 ∷ codes "turn" ∷ hex engine.0 ∷ map hex counts
report_words (Rota engine guest) = codes "rota" ∷ hex engine.0 ∷ hex guest.0 ∷ []
report_words (Move guest frame moved) = hex guest.0 ∷ codes "move" ∷ hex frame ∷ moved_word moved ∷ []
report_words (Reset guest) = hex guest.0 ∷ codes "reset" ∷ []
report_words (Memory guest at value) = hex guest.0 ∷ codes "mem" ∷ hex at ∷ hex value ∷ []
report_words Done = codes "done" ∷ []
report_words (Refused number) = codes "refused" ∷ hex number ∷ []
report_words TooLong = codes "too" ∷ codes "long" ∷ []
report_words (Lines count) = codes "lines" ∷ hex count ∷ []
report_words (Bytes count) = codes "bytes" ∷ hex count ∷ []
report_words (Fold value) = codes "fold" ∷ hex value ∷ []

-- the words, separated by one space
abbrev pub line_text : ReportLine → List ℕ
line_text line = join_with_byte 32 (report_words line)

-- the same with a line feed
unfoldable pub report_text : ReportLine → List ℕ
report_text line = line_text line ++ 10 ∷ []

unfoldable pub text_of : List ReportLine → List ℕ
text_of lines = flat_map report_text lines

-- what a line can say: guests and engines that there are
abbrev pub IsPrintable : ReportLine → Type 0
IsPrintable (Read guest place width at value) = guest.0 < 8
IsPrintable (Irq guest value) = guest.0 < 8
IsPrintable (Failsafe guest reason) = guest.0 < 8
IsPrintable (Turn guest engine counts) = (guest.0 < 8) × (engine.0 < 4)
IsPrintable (Rota engine guest) = (guest.0 < 8) × (engine.0 < 4)
IsPrintable (Move guest frame moved) = guest.0 < 8
IsPrintable (Reset guest) = guest.0 < 8
IsPrintable (Memory guest at value) = guest.0 < 8
IsPrintable line = Unit {0}
