use Rattle.std.proofs.Common.{◌≡◌, ◌∙◌, ◌+◌, ◌*◌}
use Rattle.gv_gpu.proofs.Changes.{changes-then}
use Rattle.gv_private.specs.Device.{PrivateDevice}
use Rattle.gv_private.specs.Grants.{global_written}
use Rattle.gv_private.specs.Status.{status_page}
use Rattle.gv_vgpu.specs.Vgpu.{private_of}
use Rattle.gv_vgpu.specs.Owners.{is_here}
use Rattle.gv_vgpu.proofs.Registers.{keeps-then}
use Rattle.gv_vgpu.proofs.vgpu.Vgpu.copy.Goals as goal

pub returns-clause-device : goal.returns-clause-device
returns-clause-device g c =
    let p : PrivateDevice = private_of (g.G.Gpu.state c.args.gpu.now) c.args.self.now (is_here c.args.here) in
    let page : c.from-page.result ≡ status_page p c.args.engine.0 = c.from-page.ensures ∙ c.status_page.ensures.value p in
    c.write_global-3.ensures.device
    ∙ (λ i. global_written (c.write_global-2.ensures.device i) (page i * 4096 + 4 * 0x1F) (c.from.ensures i))
    ∙ (λ i. global_written (global_written (c.write_global.ensures.device i) (page i * 4096 + 4 * (0x11 + 2 * c.from-pair.ensures i)) c.args.status.number) (status_page p c.args.engine.0 * 4096 + 4 * 0x1F) c.args.index)
    ∙ (λ i. global_written (global_written (global_written p (page i * 4096 + 4 * (0x10 + 2 * c.from-pair.ensures i)) c.args.status.word) (status_page p c.args.engine.0 * 4096 + 4 * (0x11 + 2 * c.args.index)) c.args.status.number) (status_page p c.args.engine.0 * 4096 + 4 * 0x1F) c.args.index)

pub returns-clause-keeps : goal.returns-clause-keeps
returns-clause-keeps g c =
    let d = g.G.Gpu.state c.args.gpu.now in
    let v = c.args.self.now in
    let here = is_here c.args.here in
    keeps-then here d (g.G.Gpu.state c.write_global-2.new.gpu) (g.G.Gpu.state c.write_global-3.new.gpu) v v v
    (keeps-then here d (g.G.Gpu.state c.write_global.new.gpu) (g.G.Gpu.state c.write_global-2.new.gpu) v v v c.write_global.ensures.keeps c.write_global-2.ensures.keeps)
    c.write_global-3.ensures.keeps

pub returns-clause-part : goal.returns-clause-part
returns-clause-part g c = changes-then (changes-then c.write_global.ensures.part c.write_global-2.ensures.part) c.write_global-3.ensures.part
