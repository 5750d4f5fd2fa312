-- A reader of lines.
use Rattle.std.specs.Prelude.{◌≡◌, ⊤, ℕ, ◌+◌, ◌-◌, ◌<◌, ◌≤◌, List, [], ◌∷◌, ◌++◌, Option, Some, None, Result, Ok, Err, Bool, true, false, if◌then◌else◌, length, take, drop, nat_lt}
use Rattle.std.specs.List.{list_any}
use Rattle.std.specs.Io.KnownBytes.{Consumes}
use Rattle.gv_text.specs.Script.{is_line_feed}
use Rattle.gv_lines.specs.declared.first.First.{First}
use Rattle.gv_lines.specs.declared.first.First.TheVariants as first
use Rattle.gv_lines.specs.First.{first_of}
use Rattle.gv_lines.specs.Coming.{Coming, coming_in, onto_coming, nothing_coming}
use Rattle.gv_lines.specs.declared.next.Next.{Next}
use Rattle.gv_lines.specs.declared.next.Next.TheVariants.{Line, LastLine, LongLine, End, PastLimit}

pub record ReaderState : Type 0 where
  pub line : List ℕ  -- the line that was handed out last
  pub held : List ℕ  -- the bytes that were taken behind it
  pub taken : ℕ  -- how many bytes were taken in all
  pub limit : ℕ  -- how many bytes a script may have
  pub ended : Bool  -- whether the source's end was met

abbrev pub new_reader : ℕ → ReaderState
new_reader limit = record { line = []; held = []; taken = 0; limit = limit; ended = false }

-- How many more bytes a script may have behind the lines that were handed out.
abbrev pub room_of : ReaderState → ℕ
room_of s = s.limit + length s.held - s.taken

-- The bytes behind these lines, where the source has `left`. Behind its end nothing is read.
abbrev pub rest_of : ReaderState → List ℕ → List ℕ
rest_of s left = s.held ++ (if s.ended then [] else left)

-- what is still to be handed out
abbrev pub coming : ReaderState → List ℕ → Coming
coming s left = coming_in (room_of s) (rest_of s left)

-- the first line has more than 256 bytes
abbrev pub BeginsLong : List (List ℕ) → Type 0
BeginsLong [] = ⊥
BeginsLong (line ∷ lines) = 256 < length line

-- What an answer says of what was still to be handed out, and what is then.
abbrev pub TellsNext : Next → Coming → List ℕ → Coming → Type 0
TellsNext Line before line after = (before ≡ onto_coming line after) × (length line ≤ 256)
TellsNext LastLine before line after = (before ≡ onto_coming line (nothing_coming true)) × (length line ≤ 256) × (after ≡ nothing_coming true)
TellsNext LongLine before line after = BeginsLong before.lines × (after ≡ before)
TellsNext End before line after = (before ≡ nothing_coming true) × (after ≡ before)
TellsNext PastLimit before line after = (before ≡ nothing_coming false) × (after ≡ before)

-- a fault leaves it
abbrev pub Tells : {E : Type 0} → Result Next E → Coming → List ℕ → Coming → Type 0
Tells (Ok next) before line after = TellsNext next before line after
Tells (Err e) before line after = after ≡ before

-- A relation of what was still to be handed out and what is then, where the source tells its bytes.
abbrev pub Relates : (Coming → Coming → Type 0) → ReaderState → Option (List ℕ) → ReaderState → Option (List ℕ) → Type 0
Relates P old None new after = ⊤
Relates P old (Some x) new None = ⊥
Relates P old (Some x) new (Some y) = P (coming old x) (coming new y)

-- The bytes that are handed out: a line with its line feed, or what stands behind the last one.
abbrev pub bytes_of : Next → List ℕ → List ℕ
bytes_of Line line = line ++ 10 ∷ []
bytes_of LastLine line = line
bytes_of next line = []

abbrev pub handed_out : {E : Type 0} → Result Next E → List ℕ → List ℕ
handed_out (Ok next) line = bytes_of next line
handed_out (Err e) line = []

-- Bytes were taken from the source, and stand behind those that were held; these were handed out from the
-- front.
pub record HandsOut (old new : ReaderState) (before after : Option (List ℕ)) (given : List ℕ) : Type 0 where
  pub piece : List ℕ
  pub source : Consumes before after piece
  pub bytes : old.held ++ piece ≡ given ++ new.held
  pub taken : new.taken ≡ old.taken + length piece
  pub limit : new.limit ≡ old.limit

-- whether a line holds a line feed, which none does
abbrev pub has_line_feed : List ℕ → Bool
has_line_feed line = list_any is_line_feed line

-- A line that was handed out with its line feed holds no other.
abbrev pub IsOneLine : Next → List ℕ → Type 0
IsOneLine Line line = has_line_feed line ≡ false
IsOneLine next line = ⊤

-- what holds of each state: no byte is taken behind the first one past the limit, and none is handed out
-- that stands past it
pub record IsWithin (s : ReaderState) : Type 0 where
  pub held : length s.held ≤ s.taken
  pub handed : s.taken ≤ s.limit + length s.held
  pub taken : s.taken ≤ s.limit + 1
  pub ended : s.ended ≡ true → s.taken ≤ s.limit

-- of the bytes that are held, those within the limit
abbrev pub within_limit : ReaderState → List ℕ
within_limit s = take (room_of s) s.held

-- where these hold no line
abbrev pub next_at_end : ReaderState → Option Next
next_at_end s = if nat_lt s.limit s.taken then Some PastLimit else (if s.ended then Some End else None)

-- what is next, by what these begin with; nothing where more bytes have to be taken
abbrev pub next_by : First → ReaderState → Option Next
next_by (first.Line n) s = Some Line
next_by (first.LastLine n) s = Some LastLine
next_by first.LongLine s = Some LongLine
next_by first.Nothing s = next_at_end s

abbrev pub after_by : First → ReaderState → ReaderState
after_by (first.Line n) s = record s { line = take n s.held; held = drop (n + 1) s.held }
after_by (first.LastLine n) s = record s { line = take n s.held; held = drop (n + 0) s.held }
after_by _ s = s

abbrev pub next_in : ReaderState → Option Next
next_in s = next_by (first_of s.ended (within_limit s)) s

abbrev pub after_next : ReaderState → ReaderState
after_next s = after_by (first_of s.ended (within_limit s)) s

-- how many reads there can be yet that don't fail
abbrev pub calls_left : ReaderState → ℕ
calls_left s = s.limit + 1 - s.taken + (if s.ended then 0 else 1)
