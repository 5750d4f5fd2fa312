-- What holds of every counting device.
use Rattle.std.specs.Prelude.{◌≡◌}
use Rattle.gv_devices.specs.Counting.{whole}
use Rattle.gv_devices.specs.declared.counting.CountingGpu.{CountingGpu}

-- It never counts a fault.
abbrev pub NeverFaults : Type 0
NeverFaults = (s : CountingGpu) → (whole s).faults ≡ 0
