-- The device that a failing device stands for, and which of its calls fail.
use Rattle.gv_gpu.specs.Device.{Device, with_faults}
use Rattle.gv_engine.specs.Whole.{whole as inner_whole}
use Rattle.gv_devices.specs.Plan.{Plan}
use Rattle.gv_devices.specs.declared.failing.FailingGpu.{FailingGpu}

abbrev pub whole : FailingGpu → Device
whole s = with_faults (inner_whole s.inner) s.faults

abbrev pub plan_of : FailingGpu → Plan
plan_of s = record { failing = s.failing.items; counts_all = s.counts_all; calls = s.calls }
