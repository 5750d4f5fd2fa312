use Rattle.std.proofs.Common.{◌∙◌, ap}
use Rattle.gv_gpu.specs.Context.{fields_stored}
use Rattle.gv_engine.specs.Soft.{loaded_of}
use Rattle.gv_engine.specs.Whole.{whole}
use Rattle.gv_engine.proofs.Contexts.{stopped-idle, stopped-by}
use Rattle.gv_engine.proofs.soft.SoftGpuGpu.stop.Goals as goal

pub returns-in_default-clause-ok : goal.returns-in_default-clause-ok
returns-in_default-clause-ok c = stopped-idle (whole c.args.self.now) c.args.engine.0 c.in_default.ensures

pub returns-in-Some-clause-ok : goal.returns-in-Some-clause-ok
returns-in-Some-clause-ok c =
    stopped-by (whole c.args.self.now) (whole c.store_fields.new.self) (whole c.set_context.new.self) c.args.engine.0 (loaded_of c.in-Some.context)
    c.in-Some.ensures
    (c.store_fields.ensures ∙ ap (λ fields. fields_stored (whole c.args.self.now) c.in-Some.context.descriptor fields 7) c.fields.ensures.fields)
    c.set_context.ensures
