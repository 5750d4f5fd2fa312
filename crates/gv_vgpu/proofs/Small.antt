-- How many host pages a guest's device has.
use Rattle.std.proofs.Common.{ℕ, ◌+◌, ◌*◌, ◌/◌, ◌<◌, ◌≤◌, Bool, Option, None, Some, length, arith}
use Rattle.gv_element.specs.Works.{Held}
use Rattle.gv_gpu.specs.Device.{Device}
use Rattle.gv_gtt.specs.Gtt.{frames_of, own_pages}
use Rattle.gv_gtt.proofs.Standing.{translation_is_small}
use Rattle.gv_vgpu.specs.Changes.{held_on, own_live, window_pages}
use Rattle.gv_vgpu.specs.Laws.{DevicesAreSmall, WindowsAreSmall}
use Rattle.gv_vgpu.specs.Vgpu.{engine_at}
use Rattle.gv_vgpu.specs.Standing.{StandsOn}
use Rattle.gv_vgpu.specs.declared.vgpu.Vgpu.{Vgpu}

few-pages : (tail pages : ℕ) → tail ≤ 65536 → pages ≤ 2 + (tail + 4095) / 4096 + 256 → pages ≤ 274
few-pages tail pages below few = omega arith

-- the image's two pages, at most 16 of the ring copy, and 256 of batches
few-held : (d : Device) (v : Vgpu) (engine : ℕ) (here : Bool) (element : Option Held) → StandsOn d v engine here element → window_pages element ≤ 274
few-held d v engine here None stands = omega arith
few-held d v engine here (Some x) stands = few-pages x.window.tail (length x.window.pages) stands.works.window.tail_below stands.works.runs.shows.few

few-windows : (frames tables a b c d : ℕ) → a ≤ 274 → b ≤ 274 → c ≤ 274 → d ≤ 274 → frames + tables + (a + b + c + d) ≤ frames + tables + 1096
few-windows frames tables a b c d one two three four = omega arith

pub windows_are_small : WindowsAreSmall
windows_are_small d v here holds =
    few-windows (length (frames_of v.gtt).pages) (own_pages v.gtt) (held_on v 0) (held_on v 1) (held_on v 2) (held_on v 3)
    (held 0 (omega arith)) (held 1 (omega arith)) (held 2 (omega arith)) (held 3 (omega arith))
  where
    held : (k : ℕ) → k < 4 → held_on v k ≤ 274
    held k four = few-held d v k (here k) (engine_at v k).element (holds.engines k four)

few-in-all : (frames tables own : ℕ) → tables ≤ 4 * frames + 2 * (frames / 512) → own ≤ frames + tables + 1096 → own ≤ 5 * frames + 2 * (frames / 512) + 1096
few-in-all frames tables own small windows = omega arith

pub devices_are_small : DevicesAreSmall
devices_are_small d v here holds =
    few-in-all (length (frames_of v.gtt).pages) (own_pages v.gtt) (own_live v) (translation_is_small d v.gtt holds.translates.serving.stands) (windows_are_small d v here holds)
