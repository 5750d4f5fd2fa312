-- The lines of a report that are one guest's.
use Rattle.std.specs.Prelude.{◌≡◌, ℕ, ◌<◌, List, [], ◌∷◌, ◌++◌, Bool, false, ◌==◌, filter, map}
use Rattle.std.specs.List.{before_first, flat_map, AllByRecursion}
use Rattle.std.specs.Str.{bytes_eq}
use Rattle.gv_text.specs.Grammar.{is_space}
use Rattle.gv_text.specs.Report.{hex, line_text, text_of, IsPrintable}
use Rattle.gv_text.specs.Script.{is_last_line, lines_of}
use Rattle.gv_text.specs.declared.report_line.ReportLine.{ReportLine}
use Rattle.gv_text.specs.declared.report_line.ReportLine.TheVariants.{Read, Irq, Failsafe, Turn, Move, Reset, Memory}

-- whether a line's first word is the guest's number
abbrev pub begins_with_guest : ℕ → List ℕ → Bool
begins_with_guest g line = bytes_eq (before_first is_space line) (hex g)

-- The lines of a text whose first word is the guest's number, each with its line feed.
unfoldable pub lines_of_guest : ℕ → List ℕ → List ℕ
lines_of_guest g text = flat_map (λ line. line ++ 10 ∷ []) (filter (begins_with_guest g) (lines_of is_last_line text))

-- whether a line speaks of the guest
abbrev pub speaks_of : ℕ → ReportLine → Bool
speaks_of g (Read guest place width at value) = guest.0 == g
speaks_of g (Irq guest value) = guest.0 == g
speaks_of g (Failsafe guest reason) = guest.0 == g
speaks_of g (Turn guest engine counts) = guest.0 == g
speaks_of g (Move guest frame moved) = guest.0 == g
speaks_of g (Reset guest) = guest.0 == g
speaks_of g (Memory guest at value) = guest.0 == g
speaks_of g line = false

-- A text of report lines has these lines and no others.
abbrev pub LinesAreTheTexts : Type 0
LinesAreTheTexts = (lines : List ReportLine) → lines_of is_last_line (text_of lines) ≡ map line_text lines

-- The lines of a report that begin with a guest's number are those that speak of the guest.
abbrev pub LinesNameTheirGuest : Type 0
LinesNameTheirGuest = (g : ℕ) (lines : List ReportLine) → g < 8 → AllByRecursion IsPrintable lines → lines_of_guest g (text_of lines) ≡ text_of (filter (speaks_of g) lines)
