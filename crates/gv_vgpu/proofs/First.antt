-- A guest's device as it is made.
use Rattle.std.proofs.Common.{◌≡◌, ℕ, ◌+◌, ◌%◌, ◌<◌, Bool, true, false, None, arith, length, refl, sym, ◌∙◌, subst, List, [], slice_index_or}
use Rattle.std.proofs.lemmas.Option.{none-some}
use Rattle.gv_types.specs.Memory.{zero_memory}
use Rattle.gv_types.specs.declared.ranges.Ranges.{Ranges}
use Rattle.gv_entry.specs.Global.{zero_entries}
use Rattle.gv_gpu.specs.Device.{Device, empty_device}
use Rattle.gv_gtt.specs.Gtt.{over}
use Rattle.gv_mmio.specs.Mmio.{behind, at_first}
use Rattle.gv_private.specs.Device.{PrivateDevice, new_device, reset_engine}
use Rattle.gv_gpu.specs.Part.{outside, frames_part, first_of_window}
use Rattle.gv_entry.specs.Ranges.{InParts}
use Rattle.gv_gtt.specs.Gtt.{frames_of, nodes_in, number_of, ranges_of}
use Rattle.gv_gtt.specs.Standing.{Translates}
use Rattle.gv_mmio.specs.Mmio.{guest_of, ranges_of as mmio_ranges}
use Rattle.gv_sring.specs.Window.{WindowIsAbsent}
use Rattle.gv_sppgtt.specs.Clearing.{AreNone}
use Rattle.gv_sppgtt.proofs.Fresh.{no_count}
use Rattle.gv_vgpu.specs.Changes.{held_on, own_live, window_pages}
use Rattle.gv_vgpu.specs.Idle.{AreIdle, WindowsAreAbsent}
use Rattle.gv_vgpu.specs.Vgpu.{engine_at, engine_in, engines_of, general_in, element_in, private_of}
use Rattle.gv_vgpu.specs.Standing.{Holds, IsAway, StandsOn}
use Rattle.gv_vgpu.specs.declared.engine.Engine.{Engine}
use Rattle.gv_vgpu.specs.declared.vgpu.Vgpu.{Vgpu}

-- no general register was written
zero-general : (d : Device) (engine : ℕ) (here : Bool) (kept : List ℕ) → ((n : ℕ) → slice_index_or kept n 0 ≡ 0) → (here ≡ true → d.general engine ≡ (λ n. 0)) → general_in d engine here kept ≡ (λ n. 0)
zero-general d engine true kept zeros unwritten = unwritten refl
zero-general d engine false kept zeros unwritten = λ i n. zeros n i

-- an engine without an element and without a general register that was written
first-engine :
    (d : Device) (guest engine : ℕ) (here : Bool) (e : Engine) → e.element ≡ None → ((n : ℕ) → slice_index_or e.kept n 0 ≡ 0) → (here ≡ true → d.general engine ≡ (λ n. 0))
    → engine_in d guest engine here e ≡ reset_engine
first-engine d guest engine here e none zeros unwritten =
    λ i. record reset_engine { general = zero-general d engine here e.kept zeros unwritten i; element = element_in d guest engine here (none i) }

-- the private device of a guest's device whose memory, tables and registers are as at first, and whose engines are idle
pub first-device :
    (d : Device) (v : Vgpu) (here : ℕ → Bool) (guest frames : ℕ) (ranges : Ranges)
    → ((p : PrivateDevice) → over p d v.gtt ≡ record p { number = guest; ranges = ranges; memory = zero_memory frames; entries = zero_entries ranges; roots = [] })
    → ((p : PrivateDevice) → behind p v.mmio ≡ at_first p guest ranges)
    → v.failsafe ≡ false
    → ((engine : ℕ) → (engine_at v engine).element ≡ None)
    → ((engine n : ℕ) → slice_index_or (engine_at v engine).kept n 0 ≡ 0)
    → ((engine : ℕ) → here engine ≡ true → d.general engine ≡ (λ n. 0))
    → private_of d v here ≡ new_device guest frames ranges
first-device d v here guest frames ranges memory registers awake none zeros unwritten =
    registers (over (engines_of d v here) d v.gtt)
    ∙ (λ i. at_first (memory (engines_of d v here) i) guest ranges)
    ∙ (λ i. record (new_device guest frames ranges) {
      failsafe = awake i;
      engines = λ engine. first-engine d (v.gtt.memory.frames.guest) engine (here engine) (engine_at v engine) (none engine) (zeros engine) (unwritten engine) i;
    })

-- each engine stands without an element
pub first-stands :
    (d : Device) (v : Vgpu) (here : ℕ → Bool) (guest engine : ℕ) → v.gtt.memory.frames.guest ≡ guest → WindowIsAbsent d guest engine → (here engine ≡ true → d.loaded engine ≡ None) → (engine_at v engine).element ≡ None
    → StandsOn d v engine (here engine) (engine_at v engine).element
first-stands d v here guest engine number window idle none =
    subst (λ element. StandsOn d v engine (here engine) element) (sym none)
    (record { window = subst (λ g. WindowIsAbsent d g engine) (sym number) window; idle = idle })

-- where pages of frames alone came, the engines and the entries are as they were
pub idle-same : (d e : Device) (guest : ℕ) (here : ℕ → Bool) → outside (frames_part guest) e ≡ outside (frames_part guest) d → AreIdle d guest here → AreIdle e guest here
idle-same d e guest here same idle = record {
  none_above = idle.none_above;
  none = λ engine own. (λ i. (same i).loaded engine) ∙ idle.none engine own;
  unwritten = λ engine own. (λ i. (same i).general engine) ∙ idle.unwritten engine own;
  away = λ engine below other l is. idle.away engine below other l ((λ i. (sym same i).loaded engine) ∙ is);
}

pub windows-same : (d e : Device) (guest : ℕ) → outside (frames_part guest) e ≡ outside (frames_part guest) d → WindowsAreAbsent d guest → WindowsAreAbsent e guest
windows-same d e guest same absent = λ engine below i within. subst (λ entry. entry % 2 ≡ 0) (sym (λ j. (same j).global (first_of_window guest engine + i))) (absent engine below i within)

-- A device holds that is made of parts which are as at first.
pub first-holds :
    (d : Device) (v : Vgpu) (here : ℕ → Bool) (guest : ℕ) (ranges : Ranges)
    → number_of v.gtt ≡ guest → ranges_of v.gtt ≡ ranges → guest_of v.mmio ≡ guest → mmio_ranges v.mmio ≡ ranges
    → InParts ranges → guest < 8 → Translates d v.gtt → AreIdle d guest here → WindowsAreAbsent d guest
    → ((engine : ℕ) → (engine_at v engine).element ≡ None) → ((engine : ℕ) → engine < 4 → length (engine_at v engine).kept ≡ 16)
    → Holds d v here
first-holds d v here guest ranges number tables registers known parts below translates idle absent none sixteen = record {
  translates = translates;
  parts = subst InParts (sym tables) parts;
  number = registers ∙ sym number;
  ranges = known ∙ sym tables;
  below = subst (λ g. g < 8) (sym number) below;
  engines = λ engine within. first-stands d v here guest engine number (absent engine within) (idle.none engine) (none engine);
  beside = λ j k x y differ is also. absurd (none-some x (sym (none j) ∙ is));
  away = subst (λ g. IsAway d g here) (sym number) idle.away;
  none_above = idle.none_above;
  sixteen = λ engine n own above i. idle.unwritten engine own i n;
  kept = sixteen;
}

-- As many pages are its own as it has frames.
pub first-own : (v : Vgpu) (frames : ℕ) → length (frames_of v.gtt).pages ≡ frames → AreNone (nodes_in v.gtt) → ((engine : ℕ) → (engine_at v engine).element ≡ None) → own_live v ≡ frames
first-own v frames many none idle =
    (λ i. length (frames_of v.gtt).pages + no_count v.gtt.tables none (new_device_none) (frames_of v.gtt) i + (held 0 i + held 1 i + held 2 i + held 3 i))
    ∙ sums (length (frames_of v.gtt).pages) ∙ many
  where
    held : (k : ℕ) → held_on v k ≡ 0
    held k = λ i. window_pages (idle k i)

    sums : (n : ℕ) → n + 0 + (0 + 0 + 0 + 0) ≡ n
    sums n = omega arith

    new_device_none : Device
    new_device_none = empty_device 0
