-- An element at work, as it stands in the shared device, and what a step of its engine is.
use Rattle.std.specs.Prelude.{◌≡◌, ◌≢◌, ℕ, ◌-◌, ◌≤◌, List, [], ◌∷◌, ◌++◌, true, false, None, Some, Ok}
use Rattle.gv_types.specs.declared.reply.Outcome.{Outcome}
use Rattle.gv_types.specs.declared.reply.Outcome.TheVariants as outcomes
use Rattle.gv_types.specs.declared.reply.Reason.TheVariants.{Command}
use Rattle.gv_cmd.specs.Command.{decoded, shape_of}
use Rattle.gv_entry.specs.Ranges.{InParts, owns_page}
use Rattle.gv_entry.specs.SameTables.{has, SameTables}
use Rattle.gv_fetch.specs.Left.{IsLeft, moved as left_moved}
use Rattle.gv_gpu.specs.Device.{Device, Loaded, JournalEntry, with_loaded}
use Rattle.gv_gpu.specs.Part.{outside, step_part}
use Rattle.gv_gpu.specs.Step.{next_place, physical_step}
use Rattle.gv_gpu.specs.declared.step.Step.TheVariants as steps
use Rattle.gv_guest.specs.Placed.{Placed, Hosts, memory_in}
use Rattle.gv_place.specs.Place.{StandsFor, Unchanged}
use Rattle.gv_private.specs.Device.{PrivateDevice, Working, quietly, fails}
use Rattle.gv_private.specs.Grants.{page_grant}
use Rattle.gv_private.specs.Status.{command_raised}
use Rattle.gv_private.specs.Turn.{RanCommand, front_words, turned_as, finished, turned}
use Rattle.gv_scan.specs.Layout.{Layout}
use Rattle.gv_sggtt.specs.Mirror.{NamesFrame}
use Rattle.gv_shape.specs.Shadow.{Pages}
use Rattle.gv_shape.specs.Shadows.{Shadows}
use Rattle.gv_turn.specs.Owned.{OwnsLeft}

-- An element is at work on an engine of a guest's private device, and its context is loaded there in the shared one.
-- The guest's memory stands in the device, its shadow tables and physical entries stand for its own tables, the
-- engine has the same general registers, and the context's place stands for what is left of the element.
pub record AtWork (d : Device) (placed : Placed) (pages : Pages) (p : PrivateDevice) (engine : ℕ) (w : Working) (l : Loaded) (image : ℕ) (layout : Layout) : Type 0 where
  pub number : p.number ≡ placed.guest
  pub parts : InParts p.ranges
  pub awake : p.failsafe ≡ false
  pub stands : Hosts d placed
  pub memory : p.memory ≡ memory_in d placed
  pub shadows : Shadows d placed p.memory p.roots pages
  pub mirrors : (page : ℕ) → owns_page p.ranges page ≡ true → NamesFrame placed (page_grant p page) (d.global page)
  pub general : (p.engines engine).general ≡ d.general engine
  pub element : (p.engines engine).element ≡ Some w
  pub root : has p.roots w.root ≡ true
  pub shadow_root : pages 4 w.root ≡ Some l.root
  pub loaded : d.loaded engine ≡ Some l
  pub owner : l.owner ≡ placed.guest
  pub place : StandsFor d image layout l w.left
  pub left : IsLeft engine w.left
  pub owned : OwnsLeft p.ranges w.left

-- ---- what a step does to the device

-- A step by which one command ran: outside of the guest's frames, the engine's state and the room for journal entries
-- only the journal changes. No page comes or goes, nothing is poked, and nothing strays.
pub record RanOne (before after : Device) (guest engine : ℕ) (entry : JournalEntry) : Type 0 where
  pub outside : outside (step_part guest engine) after ≡ record (outside (step_part guest engine) before) { journal = before.journal ++ entry ∷ [] }
  pub unchanged : Unchanged guest before after
  pub journal : after.journal ≡ before.journal ++ entry ∷ []
  pub strays : after.strays ≡ before.strays
  pub pokes : after.pokes ≡ before.pokes
  pub live : after.live ≡ before.live
  pub faults : after.faults ≡ before.faults
  pub spare : after.spare ≡ before.spare - 1
  pub above : (k n : ℕ) → 16 ≤ n → after.general k n ≡ before.general k n  -- beyond the sixteen registers

-- ---- what it does to the private device, before interrupt bits are raised

-- Memory, but for live tables, and the engine's general registers and element.
pub record WentOn (before after : PrivateDevice) (engine : ℕ) (w : Working) : Type 0 where
  pub rest : after ≡ record before { memory = after.memory; engines = after.engines }
  pub others : (k : ℕ) → k ≢ engine → after.engines k ≡ before.engines k
  pub own : after.engines engine ≡ record (before.engines engine) { general = (after.engines engine).general; element = Some w }
  pub tables : SameTables before.memory after.memory before.roots
  pub above : (n : ℕ) → 16 ≤ n → (after.engines engine).general n ≡ (before.engines engine).general n  -- beyond the sixteen registers

-- ---- a step, by the outcome of the turn

-- Nothing is left of the element: the context is taken off the engine.
pub record EndsAlike (d : Device) (p : PrivateDevice) (engine : ℕ) (w : Working) : Type 0 where
  pub step : physical_step d engine ≡ record { after = with_loaded d engine None; answer = steps.Ended }
  pub turn : turned p engine ≡ turned_as outcomes.Ended (finished p engine w)

-- A wait that doesn't hold changes nothing.
pub record WaitsAlike (d : Device) (p : PrivateDevice) (engine : ℕ) : Type 0 where
  pub step : physical_step d engine ≡ record { after = d; answer = steps.Waits }
  pub turn : turned p engine ≡ turned_as outcomes.Waited (quietly p)

-- A command of a live batch that is unlisted, or that may not stand there, fails the guest, and changes nothing of the
-- device.
pub record FailsAlike (d : Device) (p : PrivateDevice) (engine : ℕ) : Type 0 where
  pub step : physical_step d engine ≡ record { after = d; answer = steps.Unlisted }
  pub turn : turned p engine ≡ turned_as outcomes.Failed (fails p Command)

-- The command that is shown in the journal, on both sides.
abbrev pub shown_entry : ℕ → ℕ → List ℕ → JournalEntry
shown_entry engine guest command = record { engine = engine; owner = guest; shape = shape_of command }

abbrev pub own_entry : ℕ → ℕ → List ℕ → RanCommand
own_entry engine guest command = record { engine = engine; guest = guest; shape = shape_of command }

-- A command runs: the same in both, with the same interrupt bits, and the element goes on.
pub record RunsAlike (d : Device) (placed : Placed) (pages : Pages) (p : PrivateDevice) (engine : ℕ) (w : Working) (l : Loaded) (image : ℕ) (layout : Layout) : Type 0 where
  pub command : List ℕ  -- as the engine read it
  pub raise : ℕ
  pub after : Device
  pub left : PrivateDevice  -- before the bits are raised
  pub work : Working
  pub context : Loaded
  pub step : physical_step d engine ≡ record { after = after; answer = steps.Ran command raise }
  pub turn : turned p engine ≡ record { left = command_raised left engine raise; outcome = outcomes.Ran; ran = own_entry engine placed.guest command ∷ [] }
  pub device : RanOne d after placed.guest engine (shown_entry engine placed.guest command)
  pub went : WentOn p left engine work
  pub working : work ≡ record w { left = work.left }
  pub loaded : context ≡ record l { place = context.place }
  pub own : List ℕ  -- the command as the guest's device reads it
  pub dwords : ℕ
  pub front : decoded (front_words p engine w) ≡ Ok (own, dwords)
  pub moved : work.left ≡ left_moved w.left own dwords
  pub place : context.place ≡ next_place l.place command dwords
  pub works : AtWork after placed pages left engine work context image layout

-- An element at work neither is loaded nor leaves its engine idle.
abbrev pub StepIs : Device → Placed → Pages → PrivateDevice → ℕ → Working → Loaded → ℕ → Layout → Outcome → Type 0
StepIs d placed pages p engine w l image layout outcomes.Ended = EndsAlike d p engine w
StepIs d placed pages p engine w l image layout outcomes.Waited = WaitsAlike d p engine
StepIs d placed pages p engine w l image layout outcomes.Failed = FailsAlike d p engine
StepIs d placed pages p engine w l image layout outcomes.Ran = RunsAlike d placed pages p engine w l image layout
StepIs d placed pages p engine w l image layout outcome = ⊥
