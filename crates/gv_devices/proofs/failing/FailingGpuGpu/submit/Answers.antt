use Rattle.gv_engine.specs.Whole.{whole as inner_whole}
use Rattle.gv_devices.specs.Failing.{whole}
use Rattle.gv_devices.proofs.FaultsContext.{submitted-over}
use Rattle.gv_devices.proofs.failing.FailingGpuGpu.submit.Goals as goal

pub returns-clause-ok : goal.returns-clause-ok
returns-clause-ok c =
    let counted = c.count_other_call.new.self in
    submitted-over (inner_whole counted.inner) (inner_whole c.submit.new.self) (whole c.args.self.now) counted.faults c.args.engine.0 c.in_ok-count_other_call.ensures.ok c.submit.result c.args.owner.0 c.args.descriptor c.submit.ensures.ok
