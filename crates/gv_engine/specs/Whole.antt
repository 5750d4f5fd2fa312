-- The device that a device in memory stands for.
use Rattle.gv_gpu.specs.Device.{Device}
use Rattle.gv_engine.specs.Held.{held}
use Rattle.gv_engine.specs.Soft.{state_of}
use Rattle.gv_engine.specs.declared.soft.SoftGpu.{SoftGpu}

abbrev pub whole : SoftGpu → Device
whole s = state_of (held s.pages) s.entries.items s.general s.contexts s.journal.items s.strays s.pokes s.spare
