use Rattle.std.proofs.Common.{refl, sym, ◌∙◌, arith}
use Rattle.gv_gtt.proofs.Steps.{frames-changes}
use Rattle.gv_private.specs.Access.{aperture_written}
use Rattle.gv_vgpu.specs.Vgpu.{private_of}
use Rattle.gv_vgpu.specs.Owners.{is_here}
use Rattle.gv_vgpu.proofs.Kept.{private-after}
use Rattle.gv_vgpu.proofs.Plain.{access-frames}
use Rattle.gv_vgpu.proofs.Working.{over-private}
use Rattle.gv_vgpu.proofs.Written.{keeps-after}
use Rattle.gv_vgpu.proofs.vgpu.Vgpu.write_aperture.Goals as goal

pub returns-clause-device : goal.returns-clause-device
returns-clause-device g c =
    let here = is_here c.args.here in
    let d = g.G.Gpu.state c.args.gpu.now in
    let e = g.G.Gpu.state c.write_aperture.new.gpu in
    let v = c.args.self.now in
    sym (private-after d e v v here c.requires.holds (frames-changes 1 d e v.gtt c.write_aperture.ensures.changes) refl refl refl)
    ∙ c.write_aperture.ensures.device (private_of d v here)
    ∙ (λ i. aperture_written (over-private d v here c.requires.holds i) c.args.width c.args.at c.args.value)

pub returns-clause-keeps : goal.returns-clause-keeps
returns-clause-keeps g c =
    let d = g.G.Gpu.state c.args.gpu.now in
    let e = g.G.Gpu.state c.write_aperture.new.gpu in
    let v = c.args.self.now in
    keeps-after d e v v (is_here c.args.here) c.requires.holds (frames-changes 1 d e v.gtt c.write_aperture.ensures.changes) refl refl refl c.write_aperture.ensures.translates (λ root is. (is, refl))

pub returns-clause-part : goal.returns-clause-part
returns-clause-part g c = access-frames 1 6 (g.G.Gpu.state c.args.gpu.now) (g.G.Gpu.state c.write_aperture.new.gpu) c.args.self.now (omega arith) c.write_aperture.ensures.changes
