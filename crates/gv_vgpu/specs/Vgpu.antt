-- The private device that a guest's device stands for.
use Rattle.std.specs.Prelude.{ℕ, [], Bool, List, Option, None, Some, if◌then◌else◌, slice_index_or}
use Rattle.gv_element.specs.Works.{Held, left_of}
use Rattle.gv_gpu.specs.Device.{Device}
use Rattle.gv_gtt.specs.Gtt.{over, number_of, ranges_of}
use Rattle.gv_gtt.specs.declared.gtt.Gtt.{Gtt}
use Rattle.gv_mmio.specs.Mmio.{behind}
use Rattle.gv_private.specs.Device.{PrivateDevice, Working, Engine as PrivateEngine, reset_engine, new_device}
use Rattle.gv_vgpu.specs.declared.engine.Engine.{Engine}
use Rattle.gv_vgpu.specs.declared.vgpu.Vgpu.{Vgpu}

-- no element at work, and no general register kept
abbrev pub no_engine : Engine
no_engine = record { element = None; kept = [] }

-- what is kept for an engine by its number; there is none above 3
abbrev pub engine_at : Vgpu → ℕ → Engine
engine_at v engine = slice_index_or v.engines engine no_engine

-- ---- an engine

-- The general registers of an engine that the guest owns (`here`) are the device's. Those of another are kept.
abbrev pub general_in : Device → ℕ → Bool → List ℕ → ℕ → ℕ
general_in d engine here kept = if here then d.general engine else (λ n. slice_index_or kept n 0)

abbrev pub working_in : Device → ℕ → ℕ → Bool → Held → Working
working_in d guest engine here x = record { root = x.root; tail = x.tail; left = left_of d guest engine here }

abbrev pub element_in : Device → ℕ → ℕ → Bool → Option Held → Option Working
element_in d guest engine here None = None
element_in d guest engine here (Some x) = Some (working_in d guest engine here x)

abbrev pub engine_in : Device → ℕ → ℕ → Bool → Engine → PrivateEngine
engine_in d guest engine here e = record reset_engine { general = general_in d engine here e.kept; element = element_in d guest engine here e.element }

-- ---- the device

-- failsafe, the elements at work and the general registers, by the engines that the guest owns; all else as at first
abbrev pub engines_of : Device → Vgpu → (ℕ → Bool) → PrivateDevice
engines_of d v here = record (new_device 0 0 (ranges_of v.gtt)) { failsafe = v.failsafe; engines = λ e. engine_in d (number_of v.gtt) e (here e) (engine_at v e) }

-- That, over the guest's memory and tables, and behind its registers, interrupts and ports.
abbrev pub private_of : Device → Vgpu → (ℕ → Bool) → PrivateDevice
private_of d v here = behind (over (engines_of d v here) d v.gtt) v.mmio

-- ---- pins

-- how often each frame of the guest's memory is pinned
abbrev pub pins_of : Gtt → List ℕ
pins_of g = g.memory.pins
