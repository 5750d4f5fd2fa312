-- A command is a list of dwords that is one row of the command table, whole.
use Rattle.std.specs.Prelude.{ℕ, ◌≡◌, ◌≤◌, ◌&&◌, nat_le, true, false, List, [], ◌∷◌, length, take, slice_index, if◌then◌else◌, Option, None, Some, Result, Ok, Err, is_some}
use Rattle.gv_cmd.specs.Table.{length_of, kind_of}
use Rattle.gv_cmd.specs.declared.command.Unlisted.{Unlisted}
use Rattle.gv_cmd.specs.declared.kind.Kind.{Kind}
use Rattle.gv_cmd.specs.declared.kind.Kind.TheVariants.{BatchStart}

pub record IsCommand (ws : List ℕ) : Type 0 where
  pub length : length_of (slice_index ws 0) ≡ Some (length ws)
  pub kind : is_some (kind_of ws) ≡ true

-- the command at the front and its length, where the header names that length
abbrev pub decoded_by : Option ℕ → List ℕ → Result (List ℕ × ℕ) Unlisted
decoded_by None ws = Err record {}
decoded_by (Some n) ws = if nat_le n (length ws) && is_some (kind_of (take n ws)) then Ok (take n ws, n) else Err record {}

-- decoding: the command at the front of a list of dwords and its length, or that no row fits
abbrev pub decoded : List ℕ → Result (List ℕ × ℕ) Unlisted
decoded ws = decoded_by (length_of (slice_index ws 0)) ws

-- what stands at the front: a command with its length
pub record IsFront (ws : List ℕ) (r : List ℕ × ℕ) : Type 0 where
  pub command : r.0 ≡ take r.1 ws
  pub count : r.1 ≡ length r.0
  pub some : 1 ≤ r.1
  pub few : r.1 ≤ 65
  pub within : r.1 ≤ length ws

-- The shape of a command is the command itself, but for the start of a fetched batch, whose two
-- address dwords are 0.
abbrev pub shape_by : Option Kind → List ℕ → List ℕ
shape_by (Some (BatchStart false second at)) ws = slice_index ws 0 ∷ 0 ∷ 0 ∷ []
shape_by kind ws = ws

abbrev pub shape_of : List ℕ → List ℕ
shape_of ws = shape_by (kind_of ws) ws
