use Rattle.std.proofs.Common.{◌∙◌}
use Rattle.gv_private.specs.Access.{aperture_read}
use Rattle.gv_vgpu.specs.Vgpu.{private_of}
use Rattle.gv_vgpu.specs.Owners.{is_here}
use Rattle.gv_vgpu.proofs.Working.{over-private}
use Rattle.gv_vgpu.proofs.vgpu.Vgpu.read_aperture.Goals as goal

pub returns : goal.returns
returns g c =
    c.read_aperture.ensures (private_of (g.G.Gpu.state c.args.gpu.now) c.args.self.now (is_here c.args.here))
    ∙ (λ i. aperture_read (over-private (g.G.Gpu.state c.args.gpu.now) c.args.self.now (is_here c.args.here) c.requires.holds i) c.args.width c.args.at)
