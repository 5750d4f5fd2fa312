use Rattle.std.proofs.Common.{sym}
use Rattle.gv_engine.specs.Whole.{whole}
use Rattle.gv_engine.proofs.Contexts.{fields_stored-none, fields_stored-step}
use Rattle.gv_engine.proofs.soft.SoftGpu.store_fields.Goals as goal

pub loop-n-init : goal.loop-n-init
loop-n-init c = sym (fields_stored-none (whole c.args.self.now) c.args.descriptor c.args.fields)

pub loop-n-preserved : goal.loop-n-preserved
loop-n-preserved c =
    fields_stored-step (whole c.args.self.now) (whole c.loop-n.self) (whole c.store_global_dword.new.self) c.args.descriptor c.args.fields c.loop-n.n c.state_at-at.result
    c.loop-n.invariant c.state_at-at.ensures c.store_global_dword.ensures
