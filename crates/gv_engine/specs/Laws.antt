-- What holds of every device in memory.
use Rattle.std.specs.Prelude.{◌≡◌}
use Rattle.gv_engine.specs.Whole.{whole}
use Rattle.gv_engine.specs.declared.soft.SoftGpu.{SoftGpu}

-- It never counts a fault.
abbrev pub NeverFaults : Type 0
NeverFaults = (s : SoftGpu) → (whole s).faults ≡ 0
