-- What of a script is still to come, where it is taken piece by piece.
use Rattle.std.specs.Prelude.{ℕ, List, [], ◌∷◌, Bool, true, false, nat_le, if◌then◌else◌, length, take}
use Rattle.gv_text.specs.Script.{Script, nothing_known, is_last_line, is_too_long, lines_of, script_from}

-- lines, and whether the source ends behind them
pub record Coming : Type 0 where
  pub lines : List (List ℕ)
  pub whole : Bool

-- The lines of bytes that a source has, where a script may have so many more of them.
abbrev pub coming_in : ℕ → List ℕ → Coming
coming_in room bytes =
    if nat_le (length bytes) room
    then record { lines = lines_of is_last_line bytes; whole = true }
    else record { lines = lines_of is_too_long (take room bytes); whole = false }

-- a line, and then what comes behind it
abbrev pub onto_coming : List ℕ → Coming → Coming
onto_coming line after = record after { lines = line ∷ after.lines }

abbrev pub nothing_coming : Bool → Coming
nothing_coming whole = record { lines = []; whole = whole }

-- the script that these lines are
abbrev pub script_coming : Coming → Script
script_coming coming = script_from coming.whole nothing_known 1 coming.lines
