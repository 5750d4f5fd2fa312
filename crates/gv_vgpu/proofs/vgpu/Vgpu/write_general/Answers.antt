use Rattle.std.proofs.Common.{◌≡◌, sym, subst}
use Rattle.gv_private.specs.Registers.{general_written}
use Rattle.gv_vgpu.specs.Changes.{Keeps}
use Rattle.gv_vgpu.specs.Vgpu.{private_of}
use Rattle.gv_vgpu.specs.Owners.{is_here}
use Rattle.gv_vgpu.proofs.General.{loaded-written, loaded-keeps, kept-written, kept-keeps}
use Rattle.gv_vgpu.proofs.vgpu.Vgpu.write_general.Goals as goal

pub returns-then-here-engine-clause-device : goal.returns-then-here-engine-clause-device
returns-then-here-engine-clause-device g c =
    let here = is_here c.args.here in
    let d = g.G.Gpu.state c.args.gpu.now in
    subst (λ e. private_of e c.args.self.now here ≡ general_written (private_of d c.args.self.now here) c.args.engine.0 c.args.n c.args.value) (sym c.write_loaded.ensures)
    (loaded-written d c.args.self.now here c.requires.holds c.args.engine.0 c.args.n c.args.value c.if-here-engine.true c.requires.dword)

pub returns-then-here-engine-clause-keeps : goal.returns-then-here-engine-clause-keeps
returns-then-here-engine-clause-keeps g c =
    let here = is_here c.args.here in
    let d = g.G.Gpu.state c.args.gpu.now in
    subst (λ e. Keeps here d e c.args.self.now c.args.self.now) (sym c.write_loaded.ensures)
    (loaded-keeps d c.args.self.now here c.requires.holds c.args.engine.0 c.args.n c.args.value c.if-here-engine.true c.requires.dword)

pub returns-else-here-engine-clause-device : goal.returns-else-here-engine-clause-device
returns-else-here-engine-clause-device g c =
    kept-written (g.G.Gpu.state c.args.gpu.now) c.args.self.now c.write_kept.new.self (is_here c.args.here) c.requires.holds c.args.engine.0 c.args.n c.args.value c.if-here-engine.false c.requires.engine c.requires.dword
    c.write_kept.ensures.gtt c.write_kept.ensures.mmio c.write_kept.ensures.failsafe c.write_kept.ensures.here c.write_kept.ensures.others

pub returns-else-here-engine-clause-keeps : goal.returns-else-here-engine-clause-keeps
returns-else-here-engine-clause-keeps g c =
    kept-keeps (g.G.Gpu.state c.args.gpu.now) c.args.self.now c.write_kept.new.self (is_here c.args.here) c.requires.holds c.args.engine.0 c.args.n c.args.value c.if-here-engine.false c.requires.engine c.requires.dword
    c.write_kept.ensures.gtt c.write_kept.ensures.mmio c.write_kept.ensures.failsafe c.write_kept.ensures.here c.write_kept.ensures.others
