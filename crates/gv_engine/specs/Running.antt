-- What a step works on, of a device in memory.
use Rattle.std.specs.Prelude.{ℕ, Bool}
use Rattle.gv_gpu.specs.Device.{Device}
use Rattle.gv_gpu.specs.Step.{Stepping}
use Rattle.gv_engine.specs.Soft.{loaded_of}
use Rattle.gv_engine.specs.declared.context.Context.{Context}

abbrev pub stepping : Device → ℕ → Context → Bool → Stepping
stepping d engine context strayed = record { device = d; engine = engine; context = loaded_of context; strayed = strayed }
