-- The pins of a table: one on a frame for each owned entry that grants it.
use Rattle.std.specs.Prelude.{◌≡◌, ℕ, ◌+◌, ◌^◌, ◌<◌, ◌≤◌, List, Some, length, count_by, slice_index}
use Rattle.gv_sggtt.specs.Linked.{is_frame}
use Rattle.gv_sggtt.specs.Table.{Table, table_grant, entry_grant}

abbrev pub table_pins : Table → ℕ → ℕ
table_pins t frame = count_by (λ entry. is_frame frame (entry_grant t entry)) t.entries

-- A memory of as many frames has the table's pins, and on each frame at most 2^24 others.
pub record HasPins (t : Table) (pins : List ℕ) : Type 0 where
  pub frames : length pins ≡ t.frames
  pub own : (frame : ℕ) → frame < t.frames → table_pins t frame ≤ slice_index pins frame
  pub others : (frame : ℕ) → frame < t.frames → slice_index pins frame ≤ table_pins t frame + 2 ^ 24

-- The table's own pins come and go, and no others.
pub record ChangesOwnPins (old new : Table) (before after : List ℕ) : Type 0 where
  pub frames : length after ≡ length before
  pub each : (frame : ℕ) → frame < length before → slice_index after frame + table_pins old frame ≡ slice_index before frame + table_pins new frame

-- The table has a pin on a frame exactly where an owned page grants the frame.
pub record PinsGranted (t : Table) : Type 0 where
  pub each : (page frame : ℕ) → table_grant t page ≡ Some frame → 1 ≤ table_pins t frame
  pub no_other : (frame : ℕ) → 1 ≤ table_pins t frame → (page : ℕ) × (table_grant t page ≡ Some frame)
