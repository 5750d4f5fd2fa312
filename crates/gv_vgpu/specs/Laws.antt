-- What holds of a guest's device that stands in the shared one.
use Rattle.std.specs.Prelude.{◌≡◌, ℕ, ◌+◌, ◌*◌, ◌/◌, ◌≤◌, Bool, true, ◌<◌, Some, length}
use Rattle.gv_element.specs.Works.{Held, context_now}
use Rattle.gv_gpu.specs.Device.{Device}
use Rattle.gv_gpu.specs.Part.{inside, standing_part}
use Rattle.gv_gtt.specs.Gtt.{frames_of, number_of, nodes_in, own_pages, ranges_of, HasRoomFor}
use Rattle.gv_private.specs.Turn.{turned}
use Rattle.gv_scan.specs.Layout.{Layout}
use Rattle.gv_sring.specs.Window.{page_at}
use Rattle.gv_turn.specs.Work.{AtWork, StepIs}
use Rattle.gv_vgpu.specs.Changes.{own_live}
use Rattle.gv_vgpu.specs.Copies.{NoneComes}
use Rattle.gv_vgpu.specs.Vgpu.{engine_at, working_in, private_of}
use Rattle.gv_vgpu.specs.Standing.{Holds, IsAway}
use Rattle.gv_vgpu.specs.declared.vgpu.Vgpu.{Vgpu}

-- The element of an engine that the guest owns is at work there: a step of that engine is a turn, and touches what is
-- granted.
abbrev pub ElementsAtWorkStand : Type 0
ElementsAtWorkStand = (d : Device) (v : Vgpu) (here : ℕ → Bool) (engine : ℕ) (x : Held) → Holds d v here → engine < 4 → here engine ≡ true → (engine_at v engine).element ≡ Some x
    → (layout : Layout) × AtWork d (frames_of v.gtt) (nodes_in v.gtt) (private_of d v here) engine (working_in d (number_of v.gtt) engine true x) (context_now d (number_of v.gtt) engine true) (page_at x.window 1) layout

-- A step of an engine that the guest owns, and on which an element is at work, is a turn of the private device.
abbrev pub StepIsItsTurn : Type 0
StepIsItsTurn = (d : Device) (v : Vgpu) (here : ℕ → Bool) (engine : ℕ) (x : Held) → Holds d v here → engine < 4 → here engine ≡ true → (engine_at v engine).element ≡ Some x
    → (layout : Layout) × StepIs d (frames_of v.gtt) (nodes_in v.gtt) (private_of d v here) engine (working_in d (number_of v.gtt) engine true x) (context_now d (number_of v.gtt) engine true) (page_at x.window 1) layout
    (turned (private_of d v here) engine).outcome

-- ---- other guests' calls

-- Where the guest's part of the device is as it was, none of its contexts is loaded on an engine that it doesn't own, and
-- there is room, it stands as before.
abbrev pub DeviceStands : Type 0
DeviceStands = (d e : Device) (v : Vgpu) (here : ℕ → Bool) → Holds d v here → inside (standing_part (number_of v.gtt) (ranges_of v.gtt) here) e ≡ inside (standing_part (number_of v.gtt) (ranges_of v.gtt) here) d
    → IsAway e (number_of v.gtt) here → HasRoomFor e v.gtt → Holds e v here

-- And it stands for the same private device.
abbrev pub DeviceStays : Type 0
DeviceStays = (d e : Device) (v : Vgpu) (here : ℕ → Bool) → Holds d v here → inside (standing_part (number_of v.gtt) (ranges_of v.gtt) here) e ≡ inside (standing_part (number_of v.gtt) (ranges_of v.gtt) here) d
    → private_of e v here ≡ private_of d v here

-- No element of its came, and the copies of those at work are as they were.
abbrev pub CopiesStand : Type 0
CopiesStand = (d e : Device) (v : Vgpu) (here : ℕ → Bool) → Holds d v here → inside (standing_part (number_of v.gtt) (ranges_of v.gtt) here) e ≡ inside (standing_part (number_of v.gtt) (ranges_of v.gtt) here) d
    → NoneComes d e v v

-- ---- how many pages it has

-- For each frame itself and four shadow tables, two tables for each large page that is whole in memory, and 274 pages
-- for the window of each of four engines.
abbrev pub DevicesAreSmall : Type 0
DevicesAreSmall = (d : Device) (v : Vgpu) (here : ℕ → Bool) → Holds d v here → own_live v ≤ 5 * length (frames_of v.gtt).pages + 2 * (length (frames_of v.gtt).pages / 512) + 1096

-- The windows of its elements at work have 274 pages each at the most.
abbrev pub WindowsAreSmall : Type 0
WindowsAreSmall = (d : Device) (v : Vgpu) (here : ℕ → Bool) → Holds d v here → own_live v ≤ length (frames_of v.gtt).pages + own_pages v.gtt + 1096
