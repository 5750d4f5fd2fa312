-- Turns that stop.
use Rattle.std.proofs.Common.{◌≡◌, ◌≢◌, ℕ, Bool, Option, None, Some, refl}
use Rattle.std.specs.Prelude.{IsSome}
use Rattle.gv_types.specs.declared.event.Event.TheVariants.{Turn}
use Rattle.gv_types.specs.declared.ids.EngineId.{EngineId}
use Rattle.gv_types.specs.declared.reply.Outcome.TheVariants.{Idle}
use Rattle.gv_types.specs.declared.reply.Stop.{Stop}
use Rattle.gv_types.specs.declared.reply.Stop.TheVariants.{OutOfMemory}
use Rattle.gv_element.specs.Works.{Held, KeepsEngines}
use Rattle.gv_gpu.specs.Device.{Device}
use Rattle.gv_gtt.specs.Gtt.{number_of}
use Rattle.gv_private.specs.Turn.{turned}
use Rattle.gv_vgpu.specs.Changes.{Stops}
use Rattle.gv_vgpu.specs.Vgpu.{element_in, engine_at, private_of}
use Rattle.gv_vgpu.specs.declared.vgpu.Vgpu.{Vgpu}
use Rattle.gv_mediator.specs.Answers.{DeviceStopsBy}
use Rattle.gv_mediator.specs.Listed.{DeviceMayLackMemory}

some-in : (d : Device) (guest engine : ℕ) (here : Bool) (o : Option Held) → IsSome (element_in d guest engine here o) → IsSome o
some-in d guest engine here None is = is
some-in d guest engine here (Some x) is = refl

turn-lacks :
    (d : Device) (v : Vgpu) (here : ℕ → Bool) (engine : EngineId) → (turned (private_of d v here) engine.0).outcome ≢ Idle → (IsSome (engine_at v engine.0).element → d.spare ≡ 0)
    → DeviceMayLackMemory d (private_of d v here) (Turn engine)
turn-lacks d v here engine busy spare = (busy, λ some. spare (some-in d (number_of v.gtt) engine.0 (here engine.0) (engine_at v engine.0).element some))

pub turn-stops :
    (d e : Device) (v : Vgpu) (here : ℕ → Bool) (engine : EngineId) (stop : Stop) → Stops here d e v stop → (turned (private_of d v here) engine.0).outcome ≢ Idle → (stop ≡ OutOfMemory → IsSome (engine_at v engine.0).element → d.spare ≡ 0)
    → (stop ≡ OutOfMemory → KeepsEngines d e)
    → DeviceStopsBy here d e v (Turn engine) stop
turn-stops d e v here engine stop stops busy spare unsubmitted = record {
  stops = stops;
  faults = λ fault. busy;
  lacks = λ lack. turn-lacks d v here engine busy (spare lack);
  unsubmitted = unsubmitted;
}
