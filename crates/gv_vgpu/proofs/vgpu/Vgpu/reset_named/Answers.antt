use Rattle.std.proofs.Common.{◌≡◌, ◌+◌, ap, subst, arith}
use Rattle.gv_types.specs.declared.reply.Stop.TheVariants.{DeviceFault}
use Rattle.gv_vgpu.specs.Owners.{is_here}
use Rattle.gv_vgpu.specs.Reset.{AreReset, are_named_below}
use Rattle.gv_vgpu.proofs.ResetAll.{named-more, named-none, named-same, none-reset, on-err, reset-more, reset-now, reset-stops}
use Rattle.gv_vgpu.proofs.StartingOver.{named-device, named-keeps}
use Rattle.gv_vgpu.proofs.vgpu.Vgpu.reset_named.Goals as goal
use Rattle.gv_vgpu.proofs.vgpu.Vgpu.reset_named.Goals.{then-named-engine+in_ok-reset_engine, else-named-engine}

pub loop-engine-init : goal.loop-engine-init
loop-engine-init g c =
    let d = g.G.Gpu.state c.args.gpu.now in
    subst (λ named. AreReset named (is_here c.args.here) d d c.args.self.now c.args.self.now) (λ i k. named-none c.args.named k i) (none-reset (is_here c.args.here) d c.args.self.now c.requires.holds.occupies)

pub reset_engine-requires-clause-occupies : goal.reset_engine-requires-clause-occupies
reset_engine-requires-clause-occupies g c = c.loop-engine.invariant.occupies

pub returns-in_err-reset_engine-clause-faults : goal.returns-in_err-reset_engine-clause-faults
returns-in_err-reset_engine-clause-faults g c =
    on-err c.from_residual.result
    (reset-stops (are_named_below c.args.named c.loop-engine.engine) (is_here c.args.here) (g.G.Gpu.state c.args.gpu.now) (g.G.Gpu.state c.loop-engine.gpu) (g.G.Gpu.state c.reset_engine.new.gpu) c.args.self.now c.loop-engine.self DeviceFault
    c.loop-engine.invariant c.in_err-reset_engine.ensures.err c.in_err-reset_engine.ensures.cause (λ is. cc))

pub loop-engine-preserved : goal.loop-engine-preserved
loop-engine-preserved g c =
    let here = is_here c.args.here in
    let d = g.G.Gpu.state c.args.gpu.now in
    let e = g.G.Gpu.state c.loop-engine.gpu in
    let f = g.G.Gpu.state c.if-named-engine.gpu in
    let old = c.args.self.now in
    let before = are_named_below c.args.named c.loop-engine.engine in
    let after = are_named_below c.args.named (c.loop-engine.engine + 1) in
    elim c.if-named-engine.branch [
      | then-named-engine+in_ok-reset_engine w ↦
          reset-now after here d (g.G.Gpu.state w.reset_engine.new.gpu) f old w.reset_engine.new.self c.if-named-engine.self (ap g.G.Gpu.state w.gpu-is) w.self-is
          (reset-more before after here c.loop-engine.engine d e (g.G.Gpu.state w.reset_engine.new.gpu) old c.loop-engine.self w.reset_engine.new.self c.loop-engine-test.true
          (λ k. named-more c.args.named c.loop-engine.engine k w.if-named-engine.true) c.loop-engine.invariant w.in_ok-reset_engine.ensures.reset)
      | else-named-engine w ↦
          reset-now after here d e f old c.loop-engine.self c.if-named-engine.self (ap g.G.Gpu.state w.gpu-is) w.self-is
          (subst (λ named. AreReset named here d e old c.loop-engine.self) (λ i k. named-same c.args.named c.loop-engine.engine k w.if-named-engine.false i) c.loop-engine.invariant)
    ]

pub returns-clause-device : goal.returns-clause-device
returns-clause-device g c =
    let four : c.loop-engine.engine ≡ 4 = omega arith in
    named-device c.args.named (is_here c.args.here) (g.G.Gpu.state c.args.gpu.now) (g.G.Gpu.state c.loop-engine.gpu) c.args.self.now c.loop-engine.self
    (subst (λ n. AreReset (are_named_below c.args.named n) (is_here c.args.here) (g.G.Gpu.state c.args.gpu.now) (g.G.Gpu.state c.loop-engine.gpu) c.args.self.now c.loop-engine.self) four c.loop-engine.invariant) c.requires.holds

pub returns-clause-keeps : goal.returns-clause-keeps
returns-clause-keeps g c =
    let four : c.loop-engine.engine ≡ 4 = omega arith in
    named-keeps c.args.named (is_here c.args.here) (g.G.Gpu.state c.args.gpu.now) (g.G.Gpu.state c.loop-engine.gpu) c.args.self.now c.loop-engine.self
    (subst (λ n. AreReset (are_named_below c.args.named n) (is_here c.args.here) (g.G.Gpu.state c.args.gpu.now) (g.G.Gpu.state c.loop-engine.gpu) c.args.self.now c.loop-engine.self) four c.loop-engine.invariant) c.requires.holds
