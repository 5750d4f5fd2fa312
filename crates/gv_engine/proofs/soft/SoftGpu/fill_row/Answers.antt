use Rattle.std.proofs.Common.{◌∙◌, get_or}
use Rattle.gv_cmd.specs.Effect.{colour_byte}
use Rattle.gv_engine.specs.Running.{stepping}
use Rattle.gv_engine.specs.Whole.{whole}
use Rattle.gv_engine.proofs.RowLemmas.{bytes_stored-same}
use Rattle.gv_engine.proofs.soft.SoftGpu.fill_row.Goals as goal

pub returns : goal.returns
returns c = λ engine.
    c.write_row.ensures engine
    ∙ bytes_stored-same (stepping (whole c.args.self.now) engine c.args.context.now c.args.strayed) c.args.to (λ k. get_or c.colour_bytes.new.row k 0) (colour_byte c.args.colour c.args.depth) c.args.count c.colour_bytes.ensures
