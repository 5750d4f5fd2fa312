use Rattle.std.proofs.Common.{◌∙◌, ap}
use Rattle.gv_private.specs.Grants.{frame_read}
use Rattle.gv_gtt.specs.Gtt.{memory_of}
use Rattle.gv_gtt.proofs.gtt.Gtt.read_aperture.Goals as goal

pub returns : goal.returns
returns g c =
    let d = g.G.Gpu.state c.args.gpu.now in
    λ p. c.read_frame.ensures ∙ ap (frame_read (memory_of d c.args.self.now) c.args.width c.args.at) (c.aperture_frame-frame.ensures.grant d p c.requires.translates)
