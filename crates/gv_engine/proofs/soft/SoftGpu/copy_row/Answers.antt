use Rattle.std.proofs.Common.{◌+◌, ◌∙◌, ap, false, get_or}
use Rattle.gv_gpu.specs.Device.{Device}
use Rattle.gv_gpu.specs.Physical.{byte_at}
use Rattle.gv_gpu.specs.Step.{bytes_stored, bytes_stray}
use Rattle.gv_engine.specs.Running.{stepping}
use Rattle.gv_engine.specs.Soft.{loaded_of}
use Rattle.gv_engine.specs.Whole.{whole}
use Rattle.gv_engine.proofs.RowLemmas.{row_moved-by}
use Rattle.gv_engine.proofs.soft.SoftGpu.copy_row.Goals as goal

pub returns : goal.returns
returns c = λ engine.
    let same = c.in_default.ensures.none in
    let context = c.args.context.now in
    let row = c.read_row-stray.new.self.row in
    row_moved-by (whole c.args.self.now) (whole c.write_row.new.self) engine context c.args.strayed c.read_row-stray.result c.either.result c.write_row.result c.args.to c.args.from c.args.count row
    (λ k h. c.read_row-stray.ensures.bytes k h ∙ ap (λ (d : Device). byte_at d context.root false (c.args.from + k)) same)
    (c.read_row-stray.ensures.strayed ∙ ap (λ (d : Device). bytes_stray d (loaded_of context) c.args.from c.args.count) same)
    c.either.ensures
    (c.write_row.ensures engine ∙ ap (λ (d : Device). bytes_stored (stepping d engine context c.either.result) c.args.to (λ k. get_or row k 0) c.args.count) (c.read_row-stray.ensures.same ∙ same))
