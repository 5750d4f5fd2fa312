use Rattle.std.proofs.Common.{◌∙◌, sym}
use Rattle.gv_vgpu.specs.Vgpu.{private_of}
use Rattle.gv_vgpu.proofs.Raised.{command-raised, made}
use Rattle.gv_vgpu.proofs.Registers.{keeps-then}
use Rattle.gv_vgpu.proofs.vgpu.Vgpu.ran.Goals as goal

pub returns : goal.returns
returns c = λ d here holds.
    let old = c.args.self.now in
    let one = c.raise_where-user.new.self in
    let new = c.raise_where-notify.new.self in
    let user = c.raise_where-user.ensures d here holds in
    let notify = c.raise_where-notify.ensures d here user.keeps.holds in
    record {
      written =
          command-raised (private_of d old here) (private_of d one here) (private_of d new here) c.args.engine.0 c.args.raise c.raise_where-user.result c.raise_where-notify.result c.requires.awake user.written notify.written
          ∙ (λ i. made (private_of d new here) (sym c.or.ensures i));
      keeps = keeps-then here d d d old one new user.keeps notify.keeps;
    }
