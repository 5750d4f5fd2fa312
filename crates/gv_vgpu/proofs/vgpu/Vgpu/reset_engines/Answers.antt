use Rattle.std.proofs.Common.{◌≡◌, ◌+◌, subst, arith}
use Rattle.gv_types.specs.declared.reply.Stop.TheVariants.{DeviceFault}
use Rattle.gv_vgpu.specs.Owners.{is_here}
use Rattle.gv_vgpu.specs.Reset.{AreReset, are_below}
use Rattle.gv_vgpu.proofs.ResetAll.{below-more, below-none, none-reset, on-err, reset-more, reset-stops}
use Rattle.gv_vgpu.proofs.vgpu.Vgpu.reset_engines.Goals as goal

pub loop-engine-init : goal.loop-engine-init
loop-engine-init g c =
    let d = g.G.Gpu.state c.args.gpu.now in
    subst (λ named. AreReset named (is_here c.args.here) d d c.args.self.now c.args.self.now) (λ i k. below-none k i) (none-reset (is_here c.args.here) d c.args.self.now c.requires.occupies)

pub reset_engine-requires-clause-occupies : goal.reset_engine-requires-clause-occupies
reset_engine-requires-clause-occupies g c = c.loop-engine.invariant.occupies

pub returns-in_err-reset_engine-clause-faults : goal.returns-in_err-reset_engine-clause-faults
returns-in_err-reset_engine-clause-faults g c =
    on-err c.from_residual.result (reset-stops (are_below c.loop-engine.engine) (is_here c.args.here) (g.G.Gpu.state c.args.gpu.now) (g.G.Gpu.state c.loop-engine.gpu) (g.G.Gpu.state c.reset_engine.new.gpu) c.args.self.now c.loop-engine.self DeviceFault
    c.loop-engine.invariant c.in_err-reset_engine.ensures.err c.in_err-reset_engine.ensures.cause (λ is. cc))

pub loop-engine-preserved : goal.loop-engine-preserved
loop-engine-preserved g c =
    reset-more (are_below c.loop-engine.engine) (are_below (c.loop-engine.engine + 1)) (is_here c.args.here) c.loop-engine.engine (g.G.Gpu.state c.args.gpu.now) (g.G.Gpu.state c.loop-engine.gpu) (g.G.Gpu.state c.reset_engine.new.gpu)
    c.args.self.now c.loop-engine.self c.reset_engine.new.self c.loop-engine-test.true (below-more c.loop-engine.engine) c.loop-engine.invariant c.in_ok-reset_engine.ensures.reset

pub returns-clause-reset : goal.returns-clause-reset
returns-clause-reset g c =
    let four : c.loop-engine.engine ≡ 4 = omega arith in
    subst (λ n. AreReset (are_below n) (is_here c.args.here) (g.G.Gpu.state c.args.gpu.now) (g.G.Gpu.state c.loop-engine.gpu) c.args.self.now c.loop-engine.self) four c.loop-engine.invariant
