-- What is left of an element, as it is read in the device: by its place, from the window's copies.
use Rattle.std.specs.Prelude.{ℕ, suc, zero, ◌+◌, ◌*◌, ◌==◌, true, length, ◌≤◌, if◌then◌else◌, Option, None, Some}
use Rattle.gv_ctx.specs.declared.saved.Batch.{Batch}
use Rattle.gv_cmd.specs.Table.{kind_of}
use Rattle.gv_fetch.specs.Fetch.{by_kind}
use Rattle.gv_fetch.specs.Items.{Items, none, command, batch, start_at, depth}
use Rattle.gv_fetch.specs.Laws.{most_commands}
use Rattle.gv_fetch.specs.Left.{Level, Fetched, At, Left, live_command}
use Rattle.gv_gpu.specs.Device.{Device, Loaded}
use Rattle.gv_gpu.specs.Physical.{dword_at}

-- the items of a batch from an address on, by at most so many commands
unfoldable pub batch_seen : ℕ → (ℕ → ℕ) → ℕ → Items
batch_seen zero read at = none
batch_seen (suc n) read at =
    let c = live_command read at in
    by_kind (kind_of c)
    (λ to. batch (start_at c 0) (batch_seen n read to) (batch_seen n read (at + 4 * length c)))
    (command c none)
    (command c (batch_seen n read (at + 4 * length c)))

-- the items of a ring from an address on, up to its end
unfoldable pub ring_seen : ℕ → (ℕ → ℕ) → ℕ → ℕ → Items
ring_seen zero read at end = none
ring_seen (suc n) read at end =
    let c = live_command read at in
    if at == end then none else by_kind (kind_of c)
    (λ to. batch (start_at c 0) (batch_seen n read to) (ring_seen n read (at + 4 * length c) end))
    none
    (command c (ring_seen n read (at + 4 * length c) end))

abbrev pub level_seen : (ℕ → ℕ) → Option Batch → Option Level
level_seen read None = None
level_seen read (Some b) = if b.live then Some (At b.at) else Some (Fetched (batch_seen most_commands read b.at))

-- What is left of the element whose context is loaded: the device determines it.
abbrev pub left_seen : Device → Loaded → Left
left_seen d l = record {
  ring = ring_seen most_commands (dword_at d 0 true) (l.ring_start + l.place.ring) (l.ring_start + l.tail);
  first = level_seen (dword_at d 0 true) l.place.first;
  second = level_seen (dword_at d 0 true) l.place.second;
}

abbrev pub LevelIsShort : Option Level → Type 0
LevelIsShort None = Unit {0}
LevelIsShort (Some (Fetched items)) = depth items ≤ most_commands
LevelIsShort (Some (At at)) = Unit {0}

pub record IsShort (w : Left) : Type 0 where
  pub ring : depth w.ring ≤ most_commands
  pub first : LevelIsShort w.first
  pub second : LevelIsShort w.second
