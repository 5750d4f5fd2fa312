use Rattle.std.proofs.Common.{◌∙◌, ap}
use Rattle.gv_gpu.specs.Device.{Device}
use Rattle.gv_gpu.proofs.Effects.{effect-stays}
use Rattle.gv_engine.specs.Running.{stepping}
use Rattle.gv_engine.specs.Whole.{whole}
use Rattle.gv_engine.proofs.soft.SoftGpu.perform.Goals as goal

pub returns-clause-spare : goal.returns-clause-spare
returns-clause-spare c =
    let start = stepping (whole c.args.self.now) c.args.engine.0 c.args.context.now c.args.strayed in
    let stays = effect-stays c.args.command.now c.args.engine.0 c.args.privileged start in
    ap (λ (d : Device). d.spare) c.run_over.ensures.device ∙ ap (λ (d : Device). d.spare) stays.rest
