use Rattle.std.proofs.Common.{◌≡◌}
use Rattle.gv_gpu.specs.Context.{fields_stored}
use Rattle.gv_engine.specs.Whole.{whole}
use Rattle.gv_engine.proofs.soft.SoftGpu.store_fields.Given as goal

abbrev pub invariant-loop-n : goal.invariant-loop-n
invariant-loop-n l = whole l.self ≡ fields_stored (whole l.fn.self) l.descriptor l.fields l.n
