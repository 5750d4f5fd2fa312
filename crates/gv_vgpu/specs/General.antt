-- General registers by their dwords: dword n is a half of register n / 2, the low one first.
use Rattle.std.specs.Prelude.{ℕ, ◌*◌, ◌/◌, slice_index_or, slice_set}
use Rattle.gv_types.specs.Memory.{with_half}
use Rattle.gv_gpu.specs.Device.{Device, with_engine_general}
use Rattle.gv_vgpu.specs.declared.engine.Engine.{Engine}

-- the device with a dword of an engine's registers written
abbrev pub with_dword : Device → ℕ → ℕ → ℕ → Device
with_dword d engine n value = with_engine_general d engine (n / 2) (with_half (d.general engine (n / 2)) (4 * n) value)

-- the registers that are kept, with a dword written
abbrev pub kept_written : Engine → ℕ → ℕ → Engine
kept_written e n value = record e { kept = slice_set e.kept (n / 2) (with_half (slice_index_or e.kept (n / 2) 0) (4 * n) value) }
