-- What holds of every private device, whatever its guest does.
use Rattle.std.specs.Prelude.{ℕ, ◌+◌, ◌/◌, ◌%◌, ◌^◌, ◌<◌, ◌≡◌, Bool, true, false, ◌||◌, ◌&&◌, ◌==◌, List, length, slice_set, ◌≢◌, Option, None, Some, MatchOption, Ok, if◌then◌else◌, [], ◌∷◌}
use Rattle.gv_types.specs.declared.event.Event.{Event}
use Rattle.gv_types.specs.declared.event.Event.TheVariants.{Write, Turn, Reset}
use Rattle.gv_types.specs.declared.event.Place.{Place}
use Rattle.gv_types.specs.declared.event.Place.TheVariants.{Registers}
use Rattle.gv_types.specs.declared.event.Width.{Width}
use Rattle.gv_types.specs.declared.event.Width.TheVariants.{Four, Eight}
use Rattle.gv_types.specs.declared.ranges.Ranges.{Ranges}
use Rattle.gv_types.specs.declared.reply.Outcome.{Outcome}
use Rattle.gv_types.specs.declared.reply.Outcome.TheVariants.{Waited, Idle}
use Rattle.gv_regs.specs.Table.{target_at, engines_reset}
use Rattle.gv_regs.specs.declared.effect.Target.{Target}
use Rattle.gv_regs.specs.declared.effect.Target.TheVariants.{EngineReset}
use Rattle.gv_ctx.specs.declared.image.Image.{Image}
use Rattle.gv_csb.specs.Slots.{completion_events, begins}
use Rattle.gv_csb.specs.Status.{element_switch, active_to_idle}
use Rattle.gv_csb.specs.declared.status.Status.{Status}
use Rattle.gv_entry.specs.Global.{global_entry}
use Rattle.gv_entry.specs.Grants.{global_grant, nothing_guarded, read_grant}
use Rattle.gv_entry.specs.SameTables.{has, SameMeaning}
use Rattle.gv_entry.specs.Tables.{is_guarded}
use Rattle.gv_private.specs.Access.{aperture_written}
use Rattle.gv_private.specs.Device.{Engine, has_another, PrivateDevice, Working, new_device, failed, front_context, quietly}
use Rattle.gv_private.specs.Grants.{page_grant}
use Rattle.gv_private.specs.Inputs.{answer}
use Rattle.gv_private.specs.Load.{image_in}
use Rattle.gv_private.specs.Registers.{is_named}
use Rattle.gv_private.specs.Roots.{with_root}
use Rattle.gv_private.specs.Status.{events_given}
use Rattle.gv_private.specs.Turn.{Turned, turned, turned_as}

-- ---- turns that change nothing

abbrev pub is_still : Outcome → Bool
is_still Waited = true
is_still Idle = true
is_still outcome = false

-- A turn that waits or is idle changes nothing, tells nothing and runs nothing.
abbrev pub StillTurnsChangeNothing : Type 0
StillTurnsChangeNothing = (p : PrivateDevice) (engine : ℕ) → is_still (turned p engine).outcome ≡ true → turned p engine ≡ turned_as (turned p engine).outcome (quietly p)

-- ---- what stays

-- the same guest's, with as many frames and the same ranges
pub record SameGuest (p q : PrivateDevice) : Type 0 where
  pub number : q.number ≡ p.number
  pub frames : length q.memory ≡ length p.memory
  pub ranges : q.ranges ≡ p.ranges

-- Number, frames and ranges stay, whatever the guest does.
abbrev pub GuestStays : Type 0
GuestStays = (p : PrivateDevice) (event : Event) → SameGuest p (answer p event).left

abbrev pub is_reset : Event → Bool
is_reset (Reset guest) = true
is_reset event = false

-- all of a device in failsafe
abbrev pub IsFailed : PrivateDevice → Type 0
IsFailed p = p ≡ failed p

-- In failsafe nothing but memory changes until a function reset, and nothing but a reset ends failsafe.
abbrev pub OnlyMemoryChanges : Type 0
OnlyMemoryChanges = (p : PrivateDevice) (event : Event) → IsFailed p → is_reset event ≡ false → (answer p event).left ≡ record p { memory = (answer p event).left.memory }

abbrev pub FailsafeStays : Type 0
FailsafeStays = (p : PrivateDevice) (event : Event) → IsFailed p → is_reset event ≡ false → IsFailed (answer p event).left

-- The guest is told a reason exactly where it enters failsafe, and then it is as after a function reset, in failsafe.
-- Any other event but a reset leaves failsafe as it was.
abbrev pub FailsafeIsTold : Type 0
FailsafeIsTold =
    (p : PrivateDevice) (event : Event) → is_reset event ≡ false
    → MatchOption (answer p event).reply.failsafe ((answer p event).left.failsafe ≡ p.failsafe) (λ reason. IsFailed (answer p event).left)

-- ---- elements at work

abbrev pub is_engine_reset : Target → Bool
is_engine_reset EngineReset = true
is_engine_reset target = false

-- a dword that is written there resets the engine
abbrev pub dword_resets : ℕ → ℕ → ℕ → Bool
dword_resets engine offset value = is_engine_reset (target_at offset) && is_named (engines_reset value) engine

abbrev pub write_resets : ℕ → Place → Width → ℕ → ℕ → Bool
write_resets engine Registers Four offset value = dword_resets engine offset value
write_resets engine Registers Eight offset value = dword_resets engine offset (value % 2 ^ 32) || dword_resets engine (offset + 4) (value / 2 ^ 32)
write_resets engine place width offset value = false

-- an engine's own turn, a function reset, or a write that resets the engine
abbrev pub concerns : ℕ → Event → Bool
concerns engine (Turn other) = other.0 == engine
concerns engine (Reset guest) = true
concerns engine (Write guest place width offset value) = write_resets engine place width offset value
concerns engine event = false

-- What is left of an element at work is changed by nothing but its own turns, resets and failsafe: no write to its
-- ring, to a fetched batch or to its context does.
abbrev pub ElementStays : Type 0
ElementStays =
    (p : PrivateDevice) (event : Event) (engine : ℕ) → concerns engine event ≡ false → (answer p event).left.failsafe ≡ false
    → ((answer p event).left.engines engine).element ≡ (p.engines engine).element

-- The events of a completion tell the front element's number, and whether its list has another element.
abbrev pub CompletionTellsTheFront : Type 0
CompletionTellsTheFront =
    (e : Engine) (descriptor : ℕ) (more : List ℕ) → e.slots.running ≡ descriptor ∷ more
    → completion_events e.slots.running e.slots.pending
    ≡ (if has_another e then element_switch (front_context e).number ∷ [] else active_to_idle (front_context e).number ∷ begins e.slots.pending)

-- each element at work has a root that is there
abbrev pub HasRoots : PrivateDevice → Type 0
HasRoots p = (engine : ℕ) (w : Working) → engine < 4 → (p.engines engine).element ≡ Some w → has p.roots w.root ≡ true

-- A root of an element at work is a root: at first, and after each event.
abbrev pub FirstHasRoots : Type 0
FirstHasRoots = (number frames : ℕ) (ranges : Ranges) → HasRoots (new_device number frames ranges)

abbrev pub RootsStay : Type 0
RootsStay = (p : PrivateDevice) (event : Event) → HasRoots p → HasRoots (answer p event).left

-- ---- tables

-- A turn changes no frame that is a live table: the live tables, what they map and grant, and all else that follows
-- from them are as before.
abbrev pub TurnsKeepTables : Type 0
TurnsKeepTables = (p : PrivateDevice) (engine : ℕ) → SameMeaning p.memory (turned p engine).left.device.memory p.roots

-- Status events, whose copies are written through the global table, change none either; nor do aperture writes.
abbrev pub EventsKeepTables : Type 0
EventsKeepTables = (p : PrivateDevice) (engine : ℕ) (events : List Status) → SameMeaning p.memory (events_given p engine events).device.memory p.roots

abbrev pub AperturesKeepTables : Type 0
AperturesKeepTables = (p : PrivateDevice) (width : Width) (at value : ℕ) → SameMeaning p.memory (aperture_written p width at value).memory p.roots

-- ---- grants

-- the device, and what a turn leaves, with these words in a frame
abbrev pub with_frame : PrivateDevice → ℕ → List ℕ → PrivateDevice
with_frame p frame words = record p { memory = slice_set p.memory frame words }

abbrev pub turned_with_frame : Turned → ℕ → List ℕ → Turned
turned_with_frame t frame words = record t { left = record (t.left) { device = with_frame t.left.device frame words } }

-- A frame that no page of the global table grants, nor any address of the root of an element at work, and that is no
-- live table, since walks read these.
pub record IsUngranted (p : PrivateDevice) (w : Working) (frame : ℕ) : Type 0 where
  pub table : is_guarded p.memory p.roots frame ≡ false
  pub global : (page : ℕ) → page_grant p page ≢ Some frame
  pub process : (at : ℕ) → read_grant p.memory w.root at ≢ Some frame

-- A turn of an element at work neither reads nor writes such a frame: whatever its words are, the turn does the same,
-- and leaves them.
abbrev pub UngrantedIsUntouched : Type 0
UngrantedIsUntouched =
    (p : PrivateDevice) (engine frame : ℕ) (words : List ℕ) (w : Working) → (p.engines engine).element ≡ Some w → has p.roots w.root ≡ true → IsUngranted p w frame
    → turned (with_frame p frame words) engine ≡ turned_with_frame (turned p engine) frame words

-- the frame that a page's entry names is given to nobody who doesn't own the page
abbrev pub named_by : PrivateDevice → ℕ → Option ℕ
named_by p page = global_grant p.ranges (length p.memory) nothing_guarded (global_entry p.ranges p.entries) page

-- A frame that no entry of an owned page names, and that is no live table, nor will be one when the root of the next
-- element is announced.
pub record IsUnnamed (p : PrivateDevice) (engine frame : ℕ) : Type 0 where
  pub table : is_guarded p.memory p.roots frame ≡ false
  pub announced : (image : Image) → image_in p (front_context (p.engines engine)).page ≡ Ok image → is_guarded p.memory (with_root p.roots image.root) frame ≡ false
  pub global : (page : ℕ) → named_by p page ≢ Some frame

-- A turn of an engine without an element at work neither reads nor writes such a frame.
abbrev pub UnnamedIsUntouched : Type 0
UnnamedIsUntouched =
    (p : PrivateDevice) (engine frame : ℕ) (words : List ℕ) → (p.engines engine).element ≡ None → IsUnnamed p engine frame
    → turned (with_frame p frame words) engine ≡ turned_with_frame (turned p engine) frame words

-- A turn of an engine without an element at work, which loads one or is idle, writes no memory at all.
abbrev pub LoadsWriteNothing : Type 0
LoadsWriteNothing = (p : PrivateDevice) (engine : ℕ) → (p.engines engine).element ≡ None → (turned p engine).left.device.memory ≡ p.memory
