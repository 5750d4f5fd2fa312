-- Two dwords of the registers, written one after the other.
use Rattle.std.specs.Prelude.{ℕ, ◌+◌}
use Rattle.gv_private.specs.Device.{PrivateDevice, Written, and_then}
use Rattle.gv_private.specs.Registers.{dword_written}

-- A guest that fails by the first has no second.
abbrev pub pair_written : PrivateDevice → ℕ → ℕ → ℕ → Written
pair_written p offset low high = and_then (dword_written p offset low) (λ q. dword_written q (offset + 4) high)
