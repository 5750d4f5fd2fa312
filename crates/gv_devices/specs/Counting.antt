-- The device that a counting device stands for.
use Rattle.gv_gpu.specs.Device.{Device}
use Rattle.gv_engine.specs.Whole.{whole as inner_whole}
use Rattle.gv_devices.specs.declared.counting.CountingGpu.{CountingGpu}

abbrev pub whole : CountingGpu → Device
whole s = inner_whole s.inner
