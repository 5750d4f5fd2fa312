use Rattle.std.proofs.Common.{◌∙◌, ap}
use Rattle.gv_private.specs.Grants.{frame_written}
use Rattle.gv_gtt.specs.Gtt.{memory_of, over}
use Rattle.gv_gtt.proofs.gtt.Gtt.write_aperture.Goals as goal

pub returns-clause-device : goal.returns-clause-device
returns-clause-device g c =
    let d = g.G.Gpu.state c.args.gpu.now in
    λ p i. record (over p d c.args.self.now) { memory = (c.write_frame.ensures.memory ∙ ap (frame_written (memory_of d c.args.self.now) c.args.width c.args.at c.args.value) (c.aperture_frame-frame.ensures.grant d p c.requires.translates)) i }
