use Rattle.gv_engine.specs.Whole.{whole as inner_whole}
use Rattle.gv_devices.specs.Failing.{whole}
use Rattle.gv_devices.proofs.FaultsStep.{step-after, step-answer}
use Rattle.gv_devices.proofs.failing.FailingGpuGpu.step.Goals as goal

pub returns-clause-answer : goal.returns-clause-answer
returns-clause-answer c =
    let counted = c.count_call.new.self in
    step-answer (inner_whole counted.inner) (inner_whole c.step.new.self) (whole c.args.self.now) counted.faults c.args.engine.0 c.in_ok-count_call.ensures.ok c.step.result c.step.ensures.answer

pub returns-clause-ok : goal.returns-clause-ok
returns-clause-ok c =
    let counted = c.count_call.new.self in
    step-after (inner_whole counted.inner) (inner_whole c.step.new.self) (whole c.args.self.now) counted.faults c.args.engine.0 c.in_ok-count_call.ensures.ok c.step.result c.step.ensures.ok
