-- How the machine stands in the shared device.
use Rattle.std.specs.Prelude.{◌≡◌, ◌≢◌, ℕ, ◌<◌, ◌≤◌, List, false, Option, None, Some, All, length, map, slice_index_or}
use Rattle.std.specs.List.{sum_by}
use Rattle.gv_types.specs.declared.ids.Label.{Label}
use Rattle.gv_types.specs.declared.ranges.Ranges.{Ranges}
use Rattle.gv_balloon.specs.Shares.{AreApart}
use Rattle.gv_entry.specs.Ranges.{owns_page}
use Rattle.gv_gpu.specs.Device.{Device}
use Rattle.gv_gpu.specs.Part.{is_in_windows}
use Rattle.gv_gtt.specs.Gtt.{frames_of, number_of, ranges_of}
use Rattle.gv_machine.specs.Machine.{Machine, no_ranges}
use Rattle.gv_vgpu.specs.Changes.{own_live}
use Rattle.gv_vgpu.specs.Vgpu.{private_of}
use Rattle.gv_vgpu.specs.Standing.{Holds}
use Rattle.gv_vgpu.specs.declared.vgpu.Vgpu.{Vgpu}
use Rattle.gv_private.specs.Device.{PrivateDevice}
use Rattle.gv_sched.specs.Rota.{owner_of}
use Rattle.gv_sggtt.specs.Mirror.{IsAbsent}
use Rattle.gv_mediator.specs.Rota.{owners_in, owns}
use Rattle.gv_mediator.specs.declared.mediator.Mediator.{Mediator}

-- ---- the guests

abbrev pub all_ranges : List Vgpu → List Ranges
all_ranges guests = map (λ (v : Vgpu). ranges_of v.gtt) guests

abbrev pub all_frames : List Vgpu → ℕ
all_frames guests = sum_by (λ (v : Vgpu). length (frames_of v.gtt).pages) guests

abbrev pub all_live : List Vgpu → ℕ
all_live guests = sum_by own_live guests

-- no page of the global table is in the ranges of two guests
abbrev pub AreAllApart : List Ranges → Type 0
AreAllApart all = (g k : ℕ) → g ≢ k → g < length all → k < length all → AreApart (slice_index_or all g no_ranges) (slice_index_or all k no_ranges)

-- it is guest g's device
abbrev pub IsAt : List Vgpu → ℕ → Vgpu → Type 0
IsAt guests g v = (g < length guests) × (slice_index_or guests g v ≡ v)

-- Each guest's device stands in the shared one, with ranges of its own, and owns the engines that are its own. On an
-- engine that nobody owns no context is loaded. All live pages are the guests', and every other physical entry of the
-- global table is absent.
pub record Ties (d : Device) (owners : ℕ → Option ℕ) (guests : List Vgpu) : Type 0 where
  pub number : (g : ℕ) (v : Vgpu) → IsAt guests g v → number_of v.gtt ≡ g
  pub holds : (g : ℕ) (v : Vgpu) → IsAt guests g v → Holds d v (owns owners g)
  pub apart : AreAllApart (all_ranges guests)
  pub there : (engine g : ℕ) → owners engine ≡ Some g → g < length guests
  pub idle : (engine : ℕ) → owners engine ≡ None → d.loaded engine ≡ None
  pub live : d.live ≡ all_live guests
  pub pages : (n : ℕ) (l : Label) → d.label n ≡ Some l → l.guest.0 < length guests
  pub rest : (i : ℕ) → All (λ ranges. owns_page ranges i ≡ false) (all_ranges guests) → ((g : ℕ) → g < length guests → is_in_windows g i ≡ false) → IsAbsent (d.global i)
  pub few : all_frames guests ≤ 16384
  pub eight : length guests ≤ 8

-- ---- the machine

abbrev pub devices_in : Device → (ℕ → Option ℕ) → List Vgpu → List PrivateDevice
devices_in d owners guests = map (λ (v : Vgpu). private_of d v (owns owners (number_of v.gtt))) guests

-- The machine that a mediator stands for: the guests' private devices, and the rota's owners.
abbrev pub machine_of : Device → Mediator → Machine
machine_of d m = record { devices = devices_in d (owners_in m.rota) m.guests.items; owners = owner_of m.rota }

-- The guests' devices are tied to the shared one by the rota's owners, and the rota is of as many guests and of four
-- engines.
pub record Tied (d : Device) (m : Mediator) : Type 0 where
  pub ties : Ties d (owners_in m.rota) m.guests.items
  pub guests : m.rota.guests ≡ length m.guests.items
  pub engines : length m.rota.owners ≡ 4
