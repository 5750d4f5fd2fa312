-- The script that the lines of a number are, each judged as a line that is read.
use Rattle.std.specs.Prelude.{◌≡◌, ℕ, ◌+◌, List, [], ◌∷◌, true}
use Rattle.std.specs.Bool.{OnFalse}
use Rattle.gv_text.specs.Grammar.{IsForm}
use Rattle.gv_text.specs.Number.{provided}
use Rattle.gv_text.specs.Script.{Script, accepts, ends, is_end, known_after, nothing_known, script_on}
use Rattle.gv_text.specs.declared.ending.Ending.TheVariants.{BadScript}
use Rattle.gv_text.specs.declared.known.Known.{Known}
use Rattle.gv_text.specs.declared.script_line.Line.{Line}
use Rattle.gv_gen.specs.Script.{script_of_number}

-- the script of these lines, from line number n on
abbrev pub script_of_lines : Known → ℕ → List Line → Script
script_of_lines known n [] = ends (BadScript n)
script_of_lines known n (line ∷ lines) = script_on known n (provided (accepts known line) line) (λ next. script_of_lines next (n + 1) lines)

unfoldable pub script_made : ℕ → Script
script_made number = script_of_lines nothing_known 1 (script_of_number number)

-- Each line has its form, and is accepted behind those before it, and one of them is `end`.
abbrev pub AreAccepted : Known → List Line → Type 0
AreAccepted known [] = ⊥
AreAccepted known (line ∷ lines) = (accepts known line ≡ true) × IsForm line × OnFalse (is_end line) (AreAccepted (known_after known line) lines)
