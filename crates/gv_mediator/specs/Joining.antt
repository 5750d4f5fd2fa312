-- The guests' devices while they are made, one after another.
use Rattle.std.specs.Prelude.{◌≡◌, ℕ, ◌+◌, ◌<◌, ◌≤◌, nat_lt, if◌then◌else◌, List, [], ◌∷◌, All, true, false, Option, None, Some, length}
use Rattle.std.specs.List.{sum_by}
use Rattle.gv_types.specs.declared.ids.Label.{Label}
use Rattle.gv_balloon.specs.Shares.{AreAmong, fits, given_after}
use Rattle.gv_balloon.specs.declared.given.Given.{Given}
use Rattle.gv_entry.specs.Ranges.{owns_page}
use Rattle.gv_gpu.specs.Device.{Device}
use Rattle.gv_gpu.specs.Part.{is_in_windows}
use Rattle.gv_gtt.specs.Gtt.{number_of}
use Rattle.gv_machine.specs.Machine.{given_to}
use Rattle.gv_vgpu.specs.Standing.{Holds}
use Rattle.gv_sggtt.specs.Mirror.{IsAbsent}
use Rattle.gv_vgpu.specs.declared.vgpu.Vgpu.{Vgpu}
use Rattle.gv_mediator.specs.declared.guest.Guest.{Guest}
use Rattle.gv_mediator.specs.Rota.{owns}
use Rattle.gv_gpu.specs.Change.{Ran}
use Rattle.gv_mediator.specs.First.{all_joined, first_machine}
use Rattle.gv_mediator.specs.Tied.{AreAllApart, IsAt, all_frames, all_live, all_ranges, devices_in}

-- guest 0 is to own each of the four engines
abbrev pub first_owner : ℕ → Option ℕ
first_owner engine = if nat_lt engine 4 then Some 0 else None

-- The guests so far stand in the device, with the pages of the global table that were given out. No context is loaded,
-- and no general register was written.
pub record Joined (d : Device) (guests : List Vgpu) (given : Given) : Type 0 where
  pub number : (g : ℕ) (v : Vgpu) → IsAt guests g v → number_of v.gtt ≡ g
  pub holds : (g : ℕ) (v : Vgpu) → IsAt guests g v → Holds d v (owns first_owner g)
  pub apart : AreAllApart (all_ranges guests)
  pub live : d.live ≡ all_live guests
  pub frames : d.live ≡ all_frames guests
  pub pages : (n : ℕ) (l : Label) → d.label n ≡ Some l → l.guest.0 < length guests
  pub rest : (i : ℕ) → All (λ ranges. owns_page ranges i ≡ false) (all_ranges guests) → ((g : ℕ) → g < length guests → is_in_windows g i ≡ false) → IsAbsent (d.global i)
  pub idle : (engine : ℕ) → d.loaded engine ≡ None
  pub zeros : (engine : ℕ) → d.general engine ≡ (λ n. 0)
  pub given_is : given_to (all_ranges guests) ≡ given
  pub among : All (AreAmong given) (all_ranges guests)

-- These guests may still join: each has a frame at least, and its pages of the global table are there.
abbrev pub MayJoin : Given → List Guest → Type 0
MayJoin given [] = Unit {0}
MayJoin given (guest ∷ more) = (1 ≤ guest.frames) × (fits given guest.want ≡ true) × MayJoin (given_after given guest.want) more

-- So far these joined; these are left of all, and may join; and the machine is that of all when they have joined.
pub record IsJoining (start d : Device) (devices : List Vgpu) (given : Given) (more all : List Guest) : Type 0 where
  pub joined : Joined d devices given
  pub may : MayJoin given more
  pub count : length devices + length more ≡ length all
  pub eight : length all ≤ 8
  pub few : d.live + sum_by (λ (guest : Guest). guest.frames) more ≤ 16384
  pub machine : all_joined (record { devices = devices_in d first_owner devices; owners = λ engine. 0 }) more ≡ first_machine all
  pub ran : Ran start d []
  pub quiet : d.faults ≡ start.faults
