-- A step of the shared device is a turn of the private one.
use Rattle.std.specs.Prelude.{◌≡◌, ◌≢◌, ℕ, Bool, true, false, List, Ok}
use Rattle.gv_types.specs.declared.ranges.Ranges.{Ranges}
use Rattle.gv_cmd.specs.Simulation.{EffectsAgree, MayDo}
use Rattle.gv_cmd.specs.Table.{kind_of}
use Rattle.gv_csb.specs.declared.status.Status.{Status}
use Rattle.gv_ctx.specs.declared.image.Image.{Image}
use Rattle.gv_entry.specs.Ranges.{InParts}
use Rattle.gv_fetch.specs.Fetch.{fetched}
use Rattle.gv_fetch.specs.Items.{Items}
use Rattle.gv_fetch.specs.Left.{begun}
use Rattle.gv_gpu.specs.Device.{Device, Loaded}
use Rattle.gv_gpu.specs.Part.{outside, inside, frames_part, standing_part}
use Rattle.gv_gpu.specs.Step.{operations}
use Rattle.gv_guest.specs.Placed.{Placed, Hosts, memory_in}
use Rattle.gv_private.specs.Device.{PrivateDevice, Working}
use Rattle.gv_private.specs.Load.{global_space}
use Rattle.gv_private.specs.Space.{private_operations}
use Rattle.gv_private.specs.Status.{command_raised, events_given}
use Rattle.gv_private.specs.Turn.{finished, turned}
use Rattle.gv_scan.specs.Layout.{Layout}
use Rattle.gv_shape.specs.Shadow.{Pages}
use Rattle.gv_turn.specs.Keeping.{KeepsWork}
use Rattle.gv_turn.specs.Owned.{MayReach, OwnsLeft}
use Rattle.gv_turn.specs.Same.{Setting, Same}
use Rattle.gv_turn.specs.Work.{AtWork, RunsAlike, StepIs}

-- A command has the same effect in both spaces, and raises the same.
abbrev pub CommandsAgree : Type 0
CommandsAgree = (t : Setting) → InParts t.space.ranges → EffectsAgree private_operations operations (Same t) (MayReach t.space.ranges)

-- No command of a live batch makes a global access.
abbrev pub LiveCodeMay : Type 0
LiveCodeMay = (ranges : Ranges) (ws : List ℕ) (engine : ℕ) → MayDo (MayReach ranges) engine false (kind_of ws)

-- What is fetched makes global accesses on owned pages alone.
abbrev pub BeginsOwned : Type 0
BeginsOwned = (p : PrivateDevice) (engine : ℕ) (image : Image) (items : Items) → fetched (global_space p) engine image ≡ Ok items → OwnsLeft p.ranges (begun items)

-- A step of the engine is the turn of the guest's private device.
abbrev pub StepIsTurn : Type 0
StepIsTurn =
    (d : Device) (placed : Placed) (pages : Pages) (p : PrivateDevice) (engine : ℕ) (w : Working) (l : Loaded) (image : ℕ) (layout : Layout) → AtWork d placed pages p engine w l image layout
    → StepIs d placed pages p engine w l image layout (turned p engine).outcome

-- Where a command runs, the guest's elements on other engines stay at work as they were.
abbrev pub OthersStay : Type 0
OthersStay =
    (d : Device) (placed : Placed) (pages : Pages) (p : PrivateDevice) (engine : ℕ) (w : Working) (l : Loaded) (image : ℕ) (layout : Layout) → (runs : RunsAlike d placed pages p engine w l image layout)
    → (k : ℕ) (v : Working) (m : Loaded) (other_image : ℕ) (other_layout : Layout) → k ≢ engine → AtWork d placed pages p k v m other_image other_layout
    → AtWork runs.after placed pages runs.left k v m other_image other_layout

-- ---- what leaves an element at work

-- Where of the device only the guest's frames change, and hold what the private device's memory then is.
abbrev pub WritesKeepWork : Type 0
WritesKeepWork =
    (d e : Device) (placed : Placed) (pages : Pages) (p q : PrivateDevice) (engine : ℕ) (w : Working) (l : Loaded) (image : ℕ) (layout : Layout) → AtWork d placed pages p engine w l image layout → KeepsWork p q engine
    → Hosts e placed → q.memory ≡ memory_in e placed → outside (frames_part placed.guest) e ≡ outside (frames_part placed.guest) d → AtWork e placed pages q engine w l image layout

-- Interrupts that a command raises.
abbrev pub RaisingKeepsWork : Type 0
RaisingKeepsWork =
    (d : Device) (placed : Placed) (pages : Pages) (p : PrivateDevice) (engine : ℕ) (w : Working) (l : Loaded) (image : ℕ) (layout : Layout) → AtWork d placed pages p engine w l image layout
    → (of bits : ℕ) → AtWork d placed pages (command_raised p of bits).device engine w l image layout

-- Status events of any engine, and all that a completion on another engine leaves.
abbrev pub EventsKeepWork : Type 0
EventsKeepWork = (p : PrivateDevice) (of engine : ℕ) (events : List Status) → KeepsWork p (events_given p of events).device engine

abbrev pub FinishingKeepsWork : Type 0
FinishingKeepsWork = (p : PrivateDevice) (of engine : ℕ) (w : Working) → engine ≢ of → KeepsWork p (finished p of w).device engine

-- What leaves all that stands of the guest: calls of other guests, and room, faults and counts.
abbrev pub PartKeepsWork : Type 0
PartKeepsWork =
    (d e : Device) (here : ℕ → Bool) (placed : Placed) (pages : Pages) (p : PrivateDevice) (engine : ℕ) (w : Working) (l : Loaded) (image : ℕ) (layout : Layout) → AtWork d placed pages p engine w l image layout
    → here engine ≡ true → inside (standing_part placed.guest p.ranges here) e ≡ inside (standing_part placed.guest p.ranges here) d → AtWork e placed pages p engine w l image layout
