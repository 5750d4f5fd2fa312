-- Calls that leave the engines as they were.
use Rattle.std.proofs.Common.{◌≡◌, ℕ, ◌≤◌, List, [], None, Result, Ok, Err, if◌then◌else◌, refl, ◌∙◌, subst}
use Rattle.std.specs.Prelude.{IfErr, IsErr}
use Rattle.gv_types.specs.declared.reply.Stop.{Stop}
use Rattle.gv_types.specs.declared.reply.Stop.TheVariants.{DeviceFault, OutOfMemory}
use Rattle.gv_element.specs.Works.{KeepsEngines, element_part}
use Rattle.gv_gpu.specs.Change.{ChangesOnly}
use Rattle.gv_gpu.specs.Device.{Device}
use Rattle.gv_gpu.specs.Part.{frames_part, outside, window_part}
use Rattle.gv_gtt.specs.Changes.{Changes}
use Rattle.gv_gtt.specs.declared.gtt.Gtt.{Gtt}
use Rattle.gv_sring.specs.Window.{Window}
use Rattle.gv_vgpu.specs.Loading.{LoadsOn}
use Rattle.gv_vgpu.specs.Plain.{ChangesAccess}
use Rattle.gv_vgpu.specs.declared.vgpu.Vgpu.{Vgpu}
use Rattle.gv_vgpu.proofs.General.{not-equal}

pub engines-same : (d : Device) → KeepsEngines d d
engines-same d = record { loaded = refl; general = refl }

pub engines-then : (d e f : Device) → KeepsEngines d e → KeepsEngines e f → KeepsEngines d f
engines-then d e f first second = record { loaded = second.loaded ∙ first.loaded; general = second.general ∙ first.general }

-- memory and tables have no engine
pub tables-engines : (d e : Device) (old new : Gtt) → Changes d e old new → KeepsEngines d e
tables-engines d e old new changes = record { loaded = λ i. (changes.outside i).loaded; general = λ i. (changes.outside i).general }

pub frames-engines : (guest most : ℕ) (d e : Device) → ChangesOnly (frames_part guest) most d e → KeepsEngines d e
frames-engines guest most d e changes = record { loaded = λ i. (changes.outside i).loaded; general = λ i. (changes.outside i).general }

pub access-engines : (most : ℕ) (d e : Device) (v : Vgpu) → ChangesAccess most d e v → KeepsEngines d e
access-engines most d e v changes = record { loaded = λ i. (changes.outside i).loaded; general = λ i. (changes.outside i).general }

-- and neither has a window
pub window-engines : (d e : Device) (w : Window) → outside (window_part w.guest w.engine []) e ≡ outside (window_part w.guest w.engine w.pages) d → KeepsEngines d e
window-engines d e w same = record { loaded = λ i. (same i).loaded; general = λ i. (same i).general }

-- the device is as before
pub unmade-engines : (d e : Device) → e ≡ d → KeepsEngines d e
unmade-engines d e same = record { loaded = λ i. (same i).loaded; general = λ i. (same i).general }

-- ---- a load

-- what changed but for the element's part
pub element-loads : (guest engine : ℕ) (pages : List ℕ) (d e : Device) → outside (element_part guest engine pages) e ≡ outside (element_part guest engine []) d → e.general ≡ d.general → 1 ≤ e.spare → LoadsOn engine d e
element-loads guest engine pages d e same general room = record {
  others = λ k differ. subst (λ b. (if b then None else e.loaded k) ≡ (if b then None else d.loaded k)) (not-equal k engine differ) (λ i. (same i).loaded k);
  general = general;
  room = room;
}

pub loads-behind : (engine : ℕ) (d e f : Device) → KeepsEngines d e → LoadsOn engine e f → LoadsOn engine d f
loads-behind engine d e f first second = record {
  others = λ k differ. second.others k differ ∙ (λ i. first.loaded i k);
  general = second.general ∙ first.general;
  room = second.room;
}

-- ---- faults

-- A fault of the device is no want of memory.
pub fault-lacks-none : {T E : Type 0} (a : Result T E) (r : Result T Stop) (P : Type 0) → IfErr r (λ stop. (stop ≡ DeviceFault) × IsErr a) → r ≡ Err OutOfMemory → P
fault-lacks-none a (Ok value) P fault is = cc
fault-lacks-none a (Err stop) P fault is = let same : stop ≡ DeviceFault = fault.0 in cc
