-- A turn of an engine, over the shared device.
use Rattle.std.specs.Prelude.{◌≡◌, ℕ, ◌+◌, ◌*◌, ◌^◌, ◌<◌, ◌≤◌, List, [], slice_index, Bool, true, Option, None, Some, if◌then◌else◌}
use Rattle.gv_element.specs.Works.{Held, KeepsEngines}
use Rattle.gv_gpu.specs.Change.{Ran as RanThen}
use Rattle.gv_gpu.specs.Device.{Device, counted, with_faults, with_loaded, with_spare}
use Rattle.gv_gpu.specs.Step.{physical_step}
use Rattle.gv_gpu.specs.declared.step.Step.{Step}
use Rattle.gv_gpu.specs.declared.step.Step.TheVariants as steps
use Rattle.gv_gtt.specs.Gtt.{number_of}
use Rattle.gv_private.specs.Grants.{global_written}
use Rattle.gv_private.specs.Device.{PrivateDevice, front_context, Written, quietly, with_element}
use Rattle.gv_private.specs.Status.{bit_raised}
use Rattle.gv_private.specs.Turn.{finished}
use Rattle.gv_types.specs.declared.reply.Outcome.{Outcome}
use Rattle.gv_types.specs.declared.reply.Outcome.TheVariants.{Ran, Waited, Ended, Loaded, Failed, Idle}
use Rattle.gv_types.specs.declared.reply.Stop.{Stop}
use Rattle.gv_types.specs.declared.reply.Stop.TheVariants.{DeviceFault, OutOfMemory}
use Rattle.gv_vgpu.specs.Changes.{Keeps, Makes}
use Rattle.gv_vgpu.specs.Vgpu.{engine_at, private_of, working_in}
use Rattle.gv_vgpu.specs.Standing.{Holds}
use Rattle.gv_vgpu.specs.declared.vgpu.Vgpu.{Vgpu}
use Rattle.gv_vgpu.specs.declared.notice.Notice.{Notice}

-- The engine took off the context of the guest's element. Before that, all held.
pub record HasEnded (d : Device) (v : Vgpu) (here : ℕ → Bool) (engine : ℕ) : Type 0 where
  pub before : Device
  pub element : Held
  pub holds : Holds before v here
  pub own : here engine ≡ true
  pub at_work : (engine_at v engine).element ≡ Some element
  pub ended : d ≡ with_loaded before engine None

-- The element is gone, and all else of the guest's is as it was; this was its tail.
pub record EndOf (here : ℕ → Bool) (engine : ℕ) (before e : Device) (old new : Vgpu) (x : Held) (tail : ℕ) : Type 0 where
  pub device : private_of e new here ≡ with_element (private_of before old here) engine None
  pub keeps : Keeps here before e old new
  pub mmio : new.mmio ≡ old.mmio
  pub tail_is : tail ≡ x.tail

-- The element is completed, with its status events.
abbrev pub Completes : (ℕ → Bool) → ℕ → Device → Device → Vgpu → Vgpu → Held → Notice → Type 0
Completes here engine before e old new x notice =
    Makes here before e old new (finished (private_of before old here) engine (working_in before (number_of old.gtt) engine true x)) notice

-- a tail goes to the image of the front element
abbrev pub front_tail_written : PrivateDevice → ℕ → ℕ → PrivateDevice
front_tail_written p engine tail = global_written p (((front_context (p.engines engine)).page + 1) * 4096 + 4 * 0x05) tail

-- a bit of an engine's sixteen is raised, where that is asked
abbrev pub raised_where : Bool → PrivateDevice → ℕ → ℕ → Written
raised_where asked p engine n = if asked then bit_raised p engine n else quietly p

-- The device made one step of an engine, with so much room in its journal, and this was the answer.
pub record Made (d e : Device) (engine : ℕ) (answer : Step) : Type 0 where
  pub room : ℕ
  pub after_is : e ≡ (physical_step (with_spare d room) engine).after
  pub answer_is : answer ≡ (physical_step (with_spare d room) engine).answer

-- The dwords of a command that ran are of 32 bits: of its second one that is used.
abbrev pub HasSmallDwords : Step → Type 0
HasSmallDwords answer = (command : List ℕ) (raise : ℕ) → answer ≡ steps.Ran command raise → slice_index command 1 < 2 ^ 32

-- It made none, and at most made room and counted a fault.
pub record Unmade (d e : Device) (stop : Stop) : Type 0 where
  pub room : ℕ
  pub same : e ≡ with_faults (with_spare d room) e.faults
  pub cause : stop ≡ DeviceFault → counted d.faults ≤ e.faults
  pub memory : stop ≡ OutOfMemory → e.faults ≡ d.faults

-- ---- a turn is one step

-- The device made one step of the engine, with this answer, and behind it only what is the guest's own changed: from the
-- device that the step left, the guest's device holds again, no command ran and nothing strayed.
pub record StepsThen (here : ℕ → Bool) (d e : Device) (old new : Vgpu) (engine : ℕ) (answer : Step) : Type 0 where
  pub stepped : Device
  pub made : Made d stepped engine answer
  pub keeps : Keeps here stepped e old new
  pub none_ran : RanThen stepped e []

-- On a turn of an element at work the device makes one step of its engine, with room in the journal. A turn on which a
-- command ran, or waited, is that step and nothing else. Where the engine answered that the context ended, or that the
-- command isn't listed, what follows is the completion, which changes no engine, or the failure, of the guest's device
-- alone.
abbrev pub StepsAtWork : (ℕ → Bool) → Device → Device → Vgpu → Vgpu → ℕ → Outcome → Type 0
StepsAtWork here d e old new engine Ran = (command : List ℕ) × (raise : ℕ) × Made d e engine (steps.Ran command raise)
StepsAtWork here d e old new engine Waited = Made d e engine steps.Waits
StepsAtWork here d e old new engine Ended = (ended : StepsThen here d e old new engine steps.Ended) × KeepsEngines ended.stepped e
StepsAtWork here d e old new engine Failed = StepsThen here d e old new engine steps.Unlisted
StepsAtWork here d e old new engine outcome = ⊥

-- Without an element at work it makes none: an idle turn leaves the device as it was, and where an element is loaded, or
-- refused, no command ran and nothing strayed.
abbrev pub StepsNone : Device → Device → Outcome → Type 0
StepsNone d e Idle = e ≡ d
StepsNone d e Loaded = RanThen d e []
StepsNone d e Failed = RanThen d e []
StepsNone d e outcome = ⊥

abbrev pub StepsOnceBy : (ℕ → Bool) → Device → Device → Vgpu → Vgpu → ℕ → Outcome → Option Held → Type 0
StepsOnceBy here d e old new engine outcome (Some x) = StepsAtWork here d e old new engine outcome
StepsOnceBy here d e old new engine outcome None = StepsNone d e outcome

-- A turn is one step of the device at the most, and exactly one where an element is at work.
abbrev pub StepsOnce : (ℕ → Bool) → Device → Device → Vgpu → Vgpu → ℕ → Outcome → Type 0
StepsOnce here d e old new engine outcome = StepsOnceBy here d e old new engine outcome (engine_at old engine).element
