use Rattle.std.proofs.Common.{◌≡◌, ap, arith}
use Rattle.gv_gpu.specs.Device.{counted, with_faults}
use Rattle.gv_devices.specs.Failing.{whole}
use Rattle.gv_devices.proofs.failing.FailingGpu.count_call.Goals as goal

pub returns-then-fails-clause-err : goal.returns-then-fails-clause-err
returns-then-fails-clause-err c =
    let is : c.saturating_add-self-then-fails.result ≡ counted c.args.self.now.faults = omega arith in
    ap (with_faults (whole c.args.self.now)) is
