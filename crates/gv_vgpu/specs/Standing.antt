-- How a guest's device stands in the shared one.
use Rattle.std.specs.Prelude.{◌≡◌, ◌≢◌, ℕ, ◌+◌, ◌*◌, ◌<◌, ◌≤◌, Bool, true, false, Option, None, Some, length}
use Rattle.gv_element.specs.Works.{Held, AreApart, HasNoPage, Works, left_of}
use Rattle.gv_entry.specs.Ranges.{InParts}
use Rattle.gv_entry.specs.SameTables.{has}
use Rattle.gv_gpu.specs.Device.{Device, Loaded}
use Rattle.gv_gtt.specs.Gtt.{frames_of, gtt_part, number_of, own_pages, ranges_of, nodes_in, roots_in}
use Rattle.gv_gtt.specs.Standing.{Stands, Translates}
use Rattle.gv_mmio.specs.Mmio as mmio
use Rattle.gv_sring.specs.Window.{WindowIsAbsent}
use Rattle.gv_turn.specs.Owned.{OwnsLeft}
use Rattle.gv_vgpu.specs.Vgpu.{engine_at}
use Rattle.gv_vgpu.specs.declared.vgpu.Vgpu.{Vgpu}

-- The element of an engine works in its window, over the shadow table of its root. What is left of it makes global
-- accesses on owned pages alone; no page of its window is a shadow table's or a frame; it is at the front of a running
-- list; and the guest isn't in failsafe.
pub record StandsAtWork (d : Device) (v : Vgpu) (engine : ℕ) (here : Bool) (x : Held) : Type 0 where
  pub root_page : ℕ
  pub root : has (roots_in v.gtt) x.root ≡ true
  pub shadow_root : nodes_in v.gtt 4 x.root ≡ Some root_page
  pub works : Works d (number_of v.gtt) engine here root_page x
  pub owned : OwnsLeft (ranges_of v.gtt) (left_of d (number_of v.gtt) engine here)
  pub apart : HasNoPage (gtt_part v.gtt) x.window
  pub running : 0 < length (mmio.ports_at v.mmio engine).slots.running
  pub awake : v.failsafe ≡ false

-- Without an element an engine has no entry in its window, and if the guest owns it no context is loaded there.
pub record StandsIdle (d : Device) (v : Vgpu) (engine : ℕ) (here : Bool) : Type 0 where
  pub window : WindowIsAbsent d (number_of v.gtt) engine
  pub idle : here ≡ true → d.loaded engine ≡ None

abbrev pub StandsOn : Device → Vgpu → ℕ → Bool → Option Held → Type 0
StandsOn d v engine here None = StandsIdle d v engine here
StandsOn d v engine here (Some x) = StandsAtWork d v engine here x

-- On an engine that the guest doesn't own none of its contexts is loaded.
abbrev pub IsAway : Device → ℕ → (ℕ → Bool) → Type 0
IsAway d guest here = (engine : ℕ) → engine < 4 → here engine ≡ false → (l : Loaded) → d.loaded engine ≡ Some l → l.owner ≢ guest

-- No page of an element's window is one of another's.
abbrev pub AreBeside : Vgpu → Type 0
AreBeside v = (j k : ℕ) (x y : Held) → j ≢ k → (engine_at v j).element ≡ Some x → (engine_at v k).element ≡ Some y → AreApart x.window y.window

-- The guest's memory and tables translate for it, its registers are those of the same guest, and each of the four
-- engines stands. A guest owns no other, and an engine that it owns has sixteen general registers.
pub record Holds (d : Device) (v : Vgpu) (here : ℕ → Bool) : Type 0 where
  pub translates : Translates d v.gtt
  pub parts : InParts (ranges_of v.gtt)
  pub number : mmio.guest_of v.mmio ≡ number_of v.gtt
  pub ranges : mmio.ranges_of v.mmio ≡ ranges_of v.gtt
  pub below : number_of v.gtt < 8
  pub engines : (engine : ℕ) → engine < 4 → StandsOn d v engine (here engine) (engine_at v engine).element
  pub beside : AreBeside v
  pub away : IsAway d (number_of v.gtt) here
  pub none_above : (engine : ℕ) → 4 ≤ engine → here engine ≡ false
  pub sixteen : (engine n : ℕ) → here engine ≡ true → 16 ≤ n → d.general engine n ≡ 0
  pub kept : (engine : ℕ) → engine < 4 → length (engine_at v engine).kept ≡ 16

-- ---- whatever a call answered

-- An element has its window in the device, whatever its root's shadow table is.
pub record HasWindow (d : Device) (v : Vgpu) (engine : ℕ) (here : Bool) (x : Held) : Type 0 where
  pub root_page : ℕ
  pub works : Works d (number_of v.gtt) engine here root_page x
  pub apart : HasNoPage (gtt_part v.gtt) x.window

abbrev pub OccupiesOn : Device → Vgpu → ℕ → Bool → Option Held → Type 0
OccupiesOn d v engine here None = StandsIdle d v engine here
OccupiesOn d v engine here (Some x) = HasWindow d v engine here x

-- What holds whatever a call answered, and is enough to start over: the guest's memory and tables stand in the device,
-- and so does the window of each element.
pub record Occupies (d : Device) (v : Vgpu) (here : ℕ → Bool) : Type 0 where
  pub stands : Stands d v.gtt
  pub parts : InParts (ranges_of v.gtt)
  pub number : mmio.guest_of v.mmio ≡ number_of v.gtt
  pub ranges : mmio.ranges_of v.mmio ≡ ranges_of v.gtt
  pub below : number_of v.gtt < 8
  pub engines : (engine : ℕ) → engine < 4 → OccupiesOn d v engine (here engine) (engine_at v engine).element
  pub beside : AreBeside v
  pub away : IsAway d (number_of v.gtt) here
  pub none_above : (engine : ℕ) → 4 ≤ engine → here engine ≡ false
  pub sixteen : (engine n : ℕ) → here engine ≡ true → 16 ≤ n → d.general engine n ≡ 0
  pub kept : (engine : ℕ) → engine < 4 → length (engine_at v engine).kept ≡ 16

-- All holds but of these engines, whose elements at most have their windows.
pub record HoldsBut (but : ℕ → Bool) (d : Device) (v : Vgpu) (here : ℕ → Bool) : Type 0 where
  pub occupies : Occupies d v here
  pub translates : Translates d v.gtt
  pub others : (engine : ℕ) → engine < 4 → but engine ≡ false → StandsOn d v engine (here engine) (engine_at v engine).element

-- There is room for the shadow tables that the guest can have, and for one more window.
abbrev pub HasRoomToLoad : Device → Vgpu → Type 0
HasRoomToLoad d v = d.live + (4 * length (frames_of v.gtt).pages + 338) ≤ 131072 + own_pages v.gtt
