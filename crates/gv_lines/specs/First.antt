-- What bytes begin with, by whether a source ends behind them.
use Rattle.std.specs.Prelude.{ℕ, ◌<◌, ◌≤◌, List, Bool, nat_lt, ◌&&◌, if◌then◌else◌, length}
use Rattle.std.specs.List.{position_or_len}
use Rattle.gv_text.specs.Script.{is_line_feed}
use Rattle.gv_lines.specs.declared.first.First.{First}
use Rattle.gv_lines.specs.declared.first.First.TheVariants.{Line, LastLine, LongLine, Nothing}

-- the same, by where the first line feed stands, or how many bytes there are
abbrev pub first_at : ℕ → Bool → ℕ → First
first_at end ended count =
    if nat_lt 256 end then LongLine
    else (if nat_lt end count then Line end
    else (if ended && nat_lt 0 end then LastLine end
    else Nothing))

abbrev pub first_of : Bool → List ℕ → First
first_of ended bytes = first_at (position_or_len is_line_feed bytes) ended (length bytes)

-- a line and its line feed stand in so many bytes
abbrev pub FitsIn : First → ℕ → Type 0
FitsIn (Line n) count = (n < count) × (n ≤ 256)
FitsIn (LastLine n) count = (n ≤ count) × (n ≤ 256)
FitsIn _ count = Unit {0}
