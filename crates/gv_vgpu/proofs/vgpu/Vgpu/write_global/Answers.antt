use Rattle.std.proofs.Common.{refl, sym, ◌∙◌}
use Rattle.gv_gtt.specs.Gtt.{number_of}
use Rattle.gv_gtt.proofs.Steps.{frames-changes}
use Rattle.gv_private.specs.Grants.{global_written}
use Rattle.gv_vgpu.specs.Vgpu.{private_of}
use Rattle.gv_vgpu.specs.Owners.{is_here}
use Rattle.gv_vgpu.proofs.Kept.{private-after}
use Rattle.gv_vgpu.proofs.Unsubmitted.{frames-engines}
use Rattle.gv_vgpu.proofs.Working.{over-private}
use Rattle.gv_vgpu.proofs.Written.{keeps-after}
use Rattle.gv_vgpu.proofs.vgpu.Vgpu.write_global.Goals as goal

pub returns-clause-device : goal.returns-clause-device
returns-clause-device g c =
    let here = is_here c.args.here in
    let d = g.G.Gpu.state c.args.gpu.now in
    let e = g.G.Gpu.state c.write_dword.new.gpu in
    let v = c.args.self.now in
    sym (private-after d e v v here c.requires.holds (frames-changes 1 d e v.gtt c.write_dword.ensures.changes) refl refl refl)
    ∙ c.write_dword.ensures.device (private_of d v here)
    ∙ (λ i. global_written (over-private d v here c.requires.holds i) c.args.at c.args.value)

pub returns-clause-keeps : goal.returns-clause-keeps
returns-clause-keeps g c =
    let d = g.G.Gpu.state c.args.gpu.now in
    let e = g.G.Gpu.state c.write_dword.new.gpu in
    let v = c.args.self.now in
    keeps-after d e v v (is_here c.args.here) c.requires.holds (frames-changes 1 d e v.gtt c.write_dword.ensures.changes) refl refl refl c.write_dword.ensures.translates (λ root is. (is, refl))

pub returns-clause-engines : goal.returns-clause-engines
returns-clause-engines g c = frames-engines (number_of c.args.self.now.gtt) 1 (g.G.Gpu.state c.args.gpu.now) (g.G.Gpu.state c.write_dword.new.gpu) c.write_dword.ensures.changes
