-- What an exchange makes of an engine.
use Rattle.std.specs.Prelude.{◌≡◌, ℕ, ◌<◌, nat_lt, if◌then◌else◌, List, Option, None, Some, slice_index_or}
use Rattle.gv_types.specs.Maps.{put}
use Rattle.gv_gpu.specs.Context.{context_submitted}
use Rattle.gv_gpu.specs.Device.{Device}

-- these are the sixteen general registers of an engine
abbrev pub AreRegisters : List ℕ → Device → ℕ → Type 0
AreRegisters kept d engine = (n : ℕ) → n < 16 → slice_index_or kept n 0 ≡ d.general engine n

-- the device with these for them
abbrev pub with_registers : Device → ℕ → List ℕ → Device
with_registers d engine kept = record d { general = put d.general engine (λ n. if nat_lt n 16 then slice_index_or kept n 0 else d.general engine n) }

-- The context of a descriptor is loaded. Where there is none, what is loaded stays as it is.
abbrev pub brought : Device → ℕ → ℕ → Option ℕ → Device
brought d engine guest None = d
brought d engine guest (Some descriptor) = context_submitted d engine guest descriptor
