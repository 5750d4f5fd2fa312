use Rattle.gv_types.specs.declared.reply.Stop.TheVariants.{DeviceFault}
use Rattle.gv_private.specs.Load.{loaded}
use Rattle.gv_vgpu.specs.Vgpu.{private_of}
use Rattle.gv_vgpu.specs.Owners.{is_here}
use Rattle.gv_vgpu.proofs.Own.{stops-then}
use Rattle.gv_vgpu.proofs.NextLoaded.{refused-fails, turns-failed, turns-loaded}
use Rattle.gv_vgpu.proofs.vgpu.Vgpu.load.Goals as goal

pub returns-in-Ok-clause-turns : goal.returns-in-Ok-clause-turns
returns-in-Ok-clause-turns g c =
    turns-loaded (g.G.Gpu.state c.args.gpu.now) c.args.self.now (is_here c.args.here) c.args.engine.0 c.in-Some.descriptor c.requires.none c.requires.awake c.in-Some.ensures (g.G.Gpu.state c.bring_in.new.gpu) c.bring_in.new.self
    c.none.result c.none.ensures c.in-Ok.ensures.device c.in-Ok.ensures.keeps

pub returns-in-Ok-fail-clause-turns : goal.returns-in-Ok-fail-clause-turns
returns-in-Ok-fail-clause-turns g c =
    let d = g.G.Gpu.state c.args.gpu.now in
    let e = g.G.Gpu.state c.bring_in.new.gpu in
    let here = is_here c.args.here in
    let refused = refused-fails here d e c.args.self.now c.bring_in.new.self (loaded (private_of d c.args.self.now here) c.args.engine.0 c.in-Some.descriptor) c.in-Err-Fails.field-0 c.in-Err-Fails.reason c.in-Err-Fails.field-0-is
    c.in-Err-Fails.ensures.refuses in
    turns-failed d c.args.self.now here c.args.engine.0 c.in-Some.descriptor c.requires.none c.requires.awake c.in-Some.ensures e (g.G.Gpu.state c.fail.new.gpu) c.bring_in.new.self c.fail.new.self
    c.in-Err-Fails.reason c.in-Ok-fail.notice c.requires.holds refused.0 refused.1 c.in-Ok-fail.ensures.failed

pub returns-in-Err-clause-stops : goal.returns-in-Err-clause-stops
returns-in-Err-clause-stops g c =
    let d = g.G.Gpu.state c.args.gpu.now in
    let e = g.G.Gpu.state c.bring_in.new.gpu in
    let here = is_here c.args.here in
    let refused = refused-fails here d e c.args.self.now c.bring_in.new.self (loaded (private_of d c.args.self.now here) c.args.engine.0 c.in-Some.descriptor) c.in-Err-Fails.field-0 c.in-Err-Fails.reason c.in-Err-Fails.field-0-is
    c.in-Err-Fails.ensures.refuses in
    stops-then here d e (g.G.Gpu.state c.fail.new.gpu) c.args.self.now c.bring_in.new.self DeviceFault refused.1.changes c.in-Err.ensures.faults
