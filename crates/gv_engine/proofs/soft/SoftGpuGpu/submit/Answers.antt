use Rattle.gv_engine.specs.Soft.{loaded_of}
use Rattle.gv_engine.specs.Whole.{whole}
use Rattle.gv_engine.proofs.Contexts.{submitted-by}
use Rattle.gv_engine.proofs.soft.SoftGpuGpu.submit.Goals as goal

pub returns-clause-ok : goal.returns-clause-ok
returns-clause-ok c =
    submitted-by (whole c.args.self.now) (whole c.save.new.self) (whole c.set_context.new.self) c.args.engine.0 c.args.owner.0 c.args.descriptor (loaded_of c.context_of-context.result)
    c.save.ensures c.context_of-context.ensures c.set_context.ensures
