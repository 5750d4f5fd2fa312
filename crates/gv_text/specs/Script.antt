-- A script: from its bytes to the lines that are accepted, and how it ends.
use Rattle.std.specs.Prelude.{◌≡◌, refl, ℕ, ◌+◌, List, [], ◌∷◌, Option, Some, None, Bool, true, false, not, nat_lt, nat_le, ◌==◌, ◌&&◌, if◌then◌else◌, length, take, slice_index, slice_set}
use Rattle.std.specs.List.{slice_split}
use Rattle.gv_types.specs.Limits.{most_frames}
use Rattle.gv_types.specs.declared.ranges.Want.{Want}
use Rattle.gv_balloon.specs.Shares.{nothing_given, fits, given_after}
use Rattle.gv_text.specs.Number.{◌>>=◌, provided}
use Rattle.gv_text.specs.Grammar.{line_of}
use Rattle.gv_text.specs.declared.known.Known.{Known}
use Rattle.gv_text.specs.declared.script_line.Line.{Line}
use Rattle.gv_text.specs.declared.script_line.Line.TheVariants.{Blank, Guest, Read, Write, Elsp, Turn, Switch, Move, Reset, End}
use Rattle.gv_text.specs.declared.script_line.Guest.{Guest as GuestForm}
use Rattle.gv_text.specs.declared.ending.Ending.{Ending}
use Rattle.gv_text.specs.declared.ending.Ending.TheVariants.{Done, BadScript, TooLong}

-- What the accepted lines have settled: how many guests there are, their frames in all and each one's, the
-- pages of the global table that they are given, and whether an event came.
abbrev pub nothing_known : Known
nothing_known = record { guests = 0; frames = 0; sizes = 0 ∷ 0 ∷ 0 ∷ 0 ∷ 0 ∷ 0 ∷ 0 ∷ 0 ∷ []; given = nothing_given; begun = false }

-- the pages that a guest asks for
abbrev pub want_of : GuestForm → Want
want_of g = record { low = g.low; high = g.high }

-- whether there is room for one more guest
abbrev pub has_room : Known → GuestForm → Bool
has_room known g =
    nat_lt known.guests 8
    && nat_le (known.frames + g.frames) most_frames
    && fits known.given (want_of g)

-- whether some guest is there to own the engine
abbrev pub has_engine : Known → ℕ → Bool
has_engine known engine = nat_lt 0 known.guests && nat_lt engine 4

-- A guest is accepted before any event; an event, where its guest is there, or a guest for its engine, and
-- the frame of a move is one of its guest's; `end`, where any guest is.
abbrev pub accepts : Known → Line → Bool
accepts known Blank = true
accepts known (Guest g) = not known.begun && has_room known g
accepts known (Read guest place width at) = nat_lt guest known.guests
accepts known (Write guest place width at values) = nat_lt guest known.guests
accepts known (Elsp guest engine second first) = nat_lt guest known.guests && nat_lt engine 4
accepts known (Turn engine count) = has_engine known engine
accepts known (Switch engine) = has_engine known engine
accepts known (Move guest frame) = nat_lt guest known.guests && nat_lt frame (slice_index known.sizes guest)
accepts known (Reset guest) = nat_lt guest known.guests
accepts known End = nat_lt 0 known.guests

abbrev pub known_after : Known → Line → Known
known_after known Blank = known
known_after known (Guest g) = record known { guests = known.guests + 1; frames = known.frames + g.frames; sizes = slice_set known.sizes known.guests g.frames; given = given_after known.given (want_of g) }
known_after known line = record known { begun = true }

-- the line that the bytes are, where it is accepted
abbrev pub accepted : Known → List ℕ → Option Line
accepted known bytes = line_of bytes >>= λ line. provided (accepts known line) line

abbrev pub is_end : Line → Bool
is_end End = true
is_end line = false

pub record Script : Type 0 where
  pub lines : List Line
  pub ending : Ending

abbrev pub ends : Ending → Script
ends ending = record { lines = []; ending = ending }

abbrev pub onto_script : Line → Script → Script
onto_script line script = record script { lines = line ∷ script.lines }

-- What line number n makes of the script: `rest` is what follows it. What follows `end` isn't judged.
abbrev pub script_on : Known → ℕ → Option Line → (Known → Script) → Script
script_on known n None rest = ends (BadScript n)
script_on known n (Some line) rest = if is_end line then ends Done else onto_script line (rest (known_after known line))

-- the ending where no line is left and none was `end`, by whether the source ends there
abbrev pub missing : Bool → ℕ → Ending
missing true n = BadScript n
missing false n = TooLong

-- the script of lines from number n on
abbrev pub script_from : Bool → Known → ℕ → List (List ℕ) → Script
script_from whole known n [] = ends (missing whole n)
script_from whole known n (bytes ∷ lines) = script_on known n (accepted known bytes) (λ next. script_from whole next (n + 1) lines)

abbrev pub is_line_feed : ℕ → Bool
is_line_feed b = b == 10

-- Of the parts that line feeds separate, each but the last is a line. The last, behind which there
-- is no line feed, is one where `counts` says so.
abbrev pub lines_of_parts : (List ℕ → Bool) → List (List ℕ) → List (List ℕ)
lines_of_parts counts [] = []
lines_of_parts counts (part ∷ []) = if counts part then part ∷ [] else []
lines_of_parts counts (part ∷ next ∷ parts) = part ∷ lines_of_parts counts (next ∷ parts)

abbrev pub lines_of : (List ℕ → Bool) → List ℕ → List (List ℕ)
lines_of counts bytes = lines_of_parts counts (slice_split is_line_feed bytes)

-- at the end of a source the bytes behind the last line feed are a line, if there are any
abbrev pub is_last_line : List ℕ → Bool
is_last_line part = nat_lt 0 (length part)

-- where more bytes follow, they are none yet, unless they are too many for one already
abbrev pub is_too_long : List ℕ → Bool
is_too_long part = nat_lt 256 (length part)

-- what counts as a line behind the last line feed, by whether the source ends there
abbrev pub counts_last : Bool → List ℕ → Bool
counts_last true = is_last_line
counts_last false = is_too_long

-- the script that a text is, by whether the source ends with it
abbrev pub script_in : Bool → List ℕ → Script
script_in whole text = script_from whole nothing_known 1 (lines_of (counts_last whole) text)

-- A script has at most 64 MiB. It is no abbrev: `take` of so large a numeral would be computed.
unfoldable pub script_limit : ℕ
script_limit = 67108864

pub script_limit-is : script_limit ≡ 67108864
unfolding script_limit
script_limit-is = refl

unfoldable pub script_of : List ℕ → Script
script_of source = if nat_le (length source) script_limit then script_in true source else script_in false (take script_limit source)
