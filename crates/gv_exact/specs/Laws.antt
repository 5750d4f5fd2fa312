-- Exact grants, and that the record of what is touched is whole.
use Rattle.std.specs.Prelude.{◌≡◌, ◌≢◌, ℕ, ◌/◌, ◌==◌, ◌&&◌, not, slice_set, Bool, true, false, List, ◌<◌, length, slice_index, Option, Some, All}
use Rattle.std.specs.List.{list_any}
use Rattle.gv_cmd.specs.Effect.{Effect, effect}
use Rattle.gv_cmd.specs.Simulation.{EffectsAgree}
use Rattle.gv_entry.specs.Ranges.{InParts}
use Rattle.gv_entry.specs.SameTables.{has}
use Rattle.gv_entry.specs.Tables.{frame_words, is_guarded}
use Rattle.gv_fetch.specs.Left.{live_command}
use Rattle.gv_gpu.specs.Device.{Device, Loaded}
use Rattle.gv_gpu.specs.Step.{Stepping, operations, physical_step}
use Rattle.gv_guest.specs.Placed.{Placed}
use Rattle.gv_private.specs.Device.{PrivateDevice, Working}
use Rattle.gv_private.specs.Space.{PrivateSpace, space_of, reads, writes, operand_read, private_operations}
use Rattle.gv_scan.specs.Layout.{Layout}
use Rattle.gv_shape.specs.Shadow.{Pages}
use Rattle.gv_turn.specs.Owned.{MayReach}
use Rattle.gv_turn.specs.Same.{Setting, Same}
use Rattle.gv_turn.specs.Work.{AtWork}
use Rattle.gv_exact.specs.Exact.{recorded_operations, recorded_private, command_touched, step_touched, code_asked_at, given_by, on_hosts, StepsExactly}
use Rattle.gv_exact.specs.Touched.{Touch, Recorded, untouched}

-- The record is of the step's own effect: with it or without, a command leaves the same and raises the same.
abbrev pub RecordedIsDone : Type 0
RecordedIsDone =
    (ws : List ℕ) (engine : ℕ) (privileged : Bool) (s : Stepping)
    → ((effect recorded_operations ws engine privileged (untouched s)).after.now ≡ (effect operations ws engine privileged s).after)
    × ((effect recorded_operations ws engine privileged (untouched s)).raise ≡ (effect operations ws engine privileged s).raise)

-- A space and a step that stand for each other, and have touched the same bytes.
pub record SameTouches (t : Setting) (p : Recorded PrivateSpace) (s : Recorded Stepping) : Type 0 where
  pub same : Same t p.now s.now
  pub trace : s.trace ≡ on_hosts t.placed p.trace

abbrev pub TouchesAgree : Type 0
TouchesAgree = (t : Setting) → InParts t.space.ranges → EffectsAgree recorded_private recorded_operations (SameTouches t) (MayReach t.space.ranges)

-- A step at an element at work touches exactly what is asked for and granted.
abbrev pub ExactGrants : Type 0
ExactGrants =
    (d : Device) (placed : Placed) (pages : Pages) (p : PrivateDevice) (engine : ℕ) (w : Working) (l : Loaded) (image : ℕ) (layout : Layout) → AtWork d placed pages p engine w l image layout
    → StepsExactly d engine placed p w

-- ---- what no grant gives

-- No grant gives the frame for reading, or for writing.
abbrev pub Ungranted : (Bool → ℕ → Option ℕ) → ℕ → Type 0
Ungranted grants frame = (global : Bool) (at : ℕ) → grants global at ≢ Some frame

abbrev pub Touches : Bool → ℕ → Touch → Type 0
Touches write page x = (x.write ≡ write) × (x.page ≡ page)

-- A frame that no grant gives at that moment is neither read nor written.
pub record Spares (d : Device) (placed : Placed) (s : PrivateSpace) (engine : ℕ) : Type 0 where
  pub unread : (frame : ℕ) → frame < length placed.pages → Ungranted (reads s) frame → All (λ x. Touches false (slice_index placed.pages frame) x → ⊥) (step_touched d engine)
  pub unwritten : (frame : ℕ) → frame < length placed.pages → Ungranted (writes s) frame → All (λ x. Touches true (slice_index placed.pages frame) x → ⊥) (step_touched d engine)

abbrev pub UngrantedIsSpared : Type 0
UngrantedIsSpared =
    (d : Device) (placed : Placed) (pages : Pages) (p : PrivateDevice) (engine : ℕ) (w : Working) (l : Loaded) (image : ℕ) (layout : Layout) → AtWork d placed pages p engine w l image layout
    → Spares d placed (space_of p engine w.root) engine

-- ---- the record is whole

-- whether a byte of this word of a page is written
abbrev pub hits : ℕ → ℕ → Touch → Bool
hits page index x = x.write && (x.page == page && x.byte / 8 == index)

abbrev pub writes_word : List Touch → ℕ → ℕ → Bool
writes_word trace page index = list_any (hits page index) trace

-- A step changes no word of a page but those that are recorded as written; whatever the device.
abbrev pub OnlyRecordedIsWritten : Type 0
OnlyRecordedIsWritten =
    (d : Device) (engine page index : ℕ) → writes_word (step_touched d engine) page index ≡ false
    → slice_index ((physical_step d engine).after.words page) index ≡ slice_index (d.words page) index

-- whether a byte of this word of a frame is read
abbrev pub reads_hit : ℕ → ℕ → Touch → Bool
reads_hit page index x = not x.write && (x.page == page && x.byte / 8 == index)

abbrev pub reads_word : List Touch → ℕ → ℕ → Bool
reads_word trace page index = list_any (reads_hit page index) trace

-- another value in one word of a frame
abbrev pub with_other : PrivateSpace → ℕ → ℕ → ℕ → PrivateSpace
with_other s frame index value = record s { memory = slice_set s.memory frame (slice_set (frame_words s.memory frame) index value) }

-- Effects that agree in what they raise, in the general registers, and in every word but this one.
pub record AgreeBut (frame index : ℕ) (e f : Effect PrivateSpace) : Type 0 where
  pub raise : e.raise ≡ f.raise
  pub general : e.after.general ≡ f.after.general
  pub words : (g k : ℕ) → (g == frame && k == index) ≡ false → slice_index (frame_words e.after.memory g) k ≡ slice_index (frame_words f.after.memory g) k

-- What isn't recorded as read doesn't matter: with another value in such a word of a frame that is no table, a
-- command does the same.
abbrev pub OnlyRecordedIsRead : Type 0
OnlyRecordedIsRead =
    (s : PrivateSpace) (frame index value : ℕ) (ws : List ℕ) (engine : ℕ) (privileged : Bool) → has s.roots s.root ≡ true → is_guarded s.memory s.roots frame ≡ false
    → reads_word (command_touched ws engine privileged s) frame index ≡ false
    → AgreeBut frame index (effect private_operations ws engine privileged s) (effect private_operations ws engine privileged (with_other s frame index value))

-- Nor does what isn't asked for of live code: the front command is read the same.
abbrev pub OnlyRecordedCodeIsRead : Type 0
OnlyRecordedCodeIsRead =
    (s : PrivateSpace) (frame index value at : ℕ) → has s.roots s.root ≡ true → is_guarded s.memory s.roots frame ≡ false
    → reads_word (given_by s (code_asked_at (operand_read s false) (Some at))) frame index ≡ false
    → live_command (operand_read s false) at ≡ live_command (operand_read (with_other s frame index value) false) at
