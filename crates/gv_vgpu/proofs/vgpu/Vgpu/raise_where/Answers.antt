use Rattle.std.proofs.Common.{◌∙◌, if◌then◌else◌}
use Rattle.gv_private.specs.Device.{quietly}
use Rattle.gv_private.specs.Status.{bit_raised}
use Rattle.gv_vgpu.specs.Vgpu.{private_of}
use Rattle.gv_vgpu.proofs.vgpu.Vgpu.raise_where.Goals as goal

pub returns-then-asked : goal.returns-then-asked
returns-then-asked c = λ d here holds.
    let made = c.raise.ensures d here holds in
    let p = private_of d c.args.self.now here in
    record {
      written = (λ i. if c.if-asked.true i then bit_raised p c.args.engine.0 c.args.bit else quietly p) ∙ made.written;
      keeps = made.keeps;
    }
