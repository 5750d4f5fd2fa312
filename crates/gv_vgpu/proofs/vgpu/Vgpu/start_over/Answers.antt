use Rattle.std.proofs.Common.{refl}
use Rattle.gv_vgpu.specs.Owners.{is_here}
use Rattle.gv_vgpu.specs.declared.vgpu.Vgpu.{Vgpu}
use Rattle.gv_vgpu.proofs.StartingOver.{over-device, over-keeps}
use Rattle.gv_vgpu.proofs.vgpu.Vgpu.start_over.Goals as goal

pub returns-clause-device : goal.returns-clause-device
returns-clause-device g c =
    let new : Vgpu = record { gtt = c.clear.new.self; mmio = c.reset.new.self; failsafe = c.args.failsafe; engines = c.reset_engines.new.self.engines; four = c.self-1.given.0 } in
    over-device (is_here c.args.here) (g.G.Gpu.state c.args.gpu.now) (g.G.Gpu.state c.reset_engines.new.gpu) (g.G.Gpu.state c.clear.new.gpu) c.args.self.now c.reset_engines.new.self new c.args.failsafe
    c.requires.occupies c.in_ok-reset_engines.ensures.reset c.clear.ensures.changes refl c.reset.ensures.same refl c.clear.ensures.device c.reset.ensures.device

pub returns-clause-keeps : goal.returns-clause-keeps
returns-clause-keeps g c =
    let new : Vgpu = record { gtt = c.clear.new.self; mmio = c.reset.new.self; failsafe = c.args.failsafe; engines = c.reset_engines.new.self.engines; four = c.self-1.given.0 } in
    over-keeps (is_here c.args.here) (g.G.Gpu.state c.args.gpu.now) (g.G.Gpu.state c.reset_engines.new.gpu) (g.G.Gpu.state c.clear.new.gpu) c.args.self.now c.reset_engines.new.self new c.args.failsafe
    c.requires.occupies c.in_ok-reset_engines.ensures.reset c.clear.ensures.changes refl c.reset.ensures.same c.clear.ensures.translates
