use Rattle.std.proofs.Common.{sym, subst}
use Rattle.std.proofs.lemmas.Result.{IfOk-at_ok}
use Rattle.gv_private.specs.Device.{fails}
use Rattle.gv_vgpu.specs.Changes.{Makes, Stops, Turns, injected}
use Rattle.gv_vgpu.specs.declared.notice.Notice.{Notice}
use Rattle.gv_vgpu.specs.Vgpu.{private_of}
use Rattle.gv_vgpu.specs.Owners.{is_here}
use Rattle.gv_private.specs.Turn.{turned}
use Rattle.gv_types.specs.declared.reply.Outcome.TheVariants as outcomes
use Rattle.gv_types.specs.declared.reply.Reason.TheVariants.{Command}
use Rattle.gv_types.specs.declared.reply.Stop.TheVariants.{DeviceFault}
use Rattle.gv_vgpu.proofs.Outcomes.{after-error, step-awake, step-ended, step-ended-once, step-ended-turns, step-failed-once, step-failed-stops, step-failed-turns, step-never-idle, step-occupies, step-ran-once, step-ran-turns, step-waited-once, step-waited-turns}
use Rattle.gv_vgpu.proofs.vgpu.Vgpu.step.Goals as goal

pub ran-requires-clause-awake : goal.ran-requires-clause-awake
ran-requires-clause-awake g c =
    step-awake (g.G.Gpu.state c.args.gpu.now) c.args.self.now (is_here c.args.here) c.args.engine.0 c.requires.holds c.requires.engine c.requires.own c.requires.work (g.G.Gpu.state c.one_step.new.gpu) c.in-Ok-Ran.field-0 c.in-Ok-Ran.ensures.made

pub finish-requires-clause-ended : goal.finish-requires-clause-ended
finish-requires-clause-ended g c =
    step-ended (g.G.Gpu.state c.args.gpu.now) c.args.self.now (is_here c.args.here) c.args.engine.0 c.requires.holds c.requires.engine c.requires.own c.requires.work (g.G.Gpu.state c.one_step.new.gpu) c.in-Ok-Ended.field-0 c.in-Ok-Ended.ensures.made c.in-Ok-Ended.field-0-is

pub fail-requires : goal.fail-requires
fail-requires g c = record {
  occupies = step-occupies (g.G.Gpu.state c.args.gpu.now) c.args.self.now (is_here c.args.here) c.args.engine.0 c.requires.holds c.requires.engine c.requires.own c.requires.work (g.G.Gpu.state c.one_step.new.gpu) c.in-Ok-Unlisted.field-0 c.in-Ok-Unlisted.ensures.made c.in-Ok-Unlisted.field-0-is;
}

pub unreachable-requires : goal.unreachable-requires
unreachable-requires g c =
    step-never-idle (g.G.Gpu.state c.args.gpu.now) c.args.self.now (is_here c.args.here) c.args.engine.0 c.requires.holds c.requires.engine c.requires.own c.requires.work (g.G.Gpu.state c.one_step.new.gpu) c.in-Ok-Idle.field-0 c.in-Ok-Idle.ensures.made c.in-Ok-Idle.field-0-is

pub returns-in-Ok-Ran-clause-turns : goal.returns-in-Ok-Ran-clause-turns
returns-in-Ok-Ran-clause-turns g c =
    subst (λ notice. Turns (is_here c.args.here) (g.G.Gpu.state c.args.gpu.now) (g.G.Gpu.state c.one_step.new.gpu) c.args.self.now c.ran.new.self (turned (private_of (g.G.Gpu.state c.args.gpu.now) c.args.self.now (is_here c.args.here)) c.args.engine.0) outcomes.Ran notice) (sym c.injected.ensures)
    (step-ran-turns (g.G.Gpu.state c.args.gpu.now) c.args.self.now (is_here c.args.here) c.args.engine.0 c.requires.holds c.requires.engine c.requires.own c.requires.work (g.G.Gpu.state c.one_step.new.gpu) c.in-Ok-Ran.field-0 c.in-Ok-Ran.ensures.made
    c.in-Ok-Ran.field-0-0 c.in-Ok-Ran.raise c.ran.new.self c.ran.result c.in-Ok-Ran.field-0-is (c.in-Ok-Ran.ensures.small c.in-Ok-Ran.field-0-0 c.in-Ok-Ran.raise c.in-Ok-Ran.field-0-is) c.ran.ensures)

pub returns-in-Ok-Waits-clause-turns : goal.returns-in-Ok-Waits-clause-turns
returns-in-Ok-Waits-clause-turns g c =
    subst (λ notice. Turns (is_here c.args.here) (g.G.Gpu.state c.args.gpu.now) (g.G.Gpu.state c.one_step.new.gpu) c.args.self.now c.args.self.now (turned (private_of (g.G.Gpu.state c.args.gpu.now) c.args.self.now (is_here c.args.here)) c.args.engine.0) outcomes.Waited notice) (sym c.none.ensures)
    (step-waited-turns (g.G.Gpu.state c.args.gpu.now) c.args.self.now (is_here c.args.here) c.args.engine.0 c.requires.holds c.requires.engine c.requires.own c.requires.work (g.G.Gpu.state c.one_step.new.gpu) c.in-Ok-Waits.field-0 c.in-Ok-Waits.ensures.made c.in-Ok-Waits.field-0-is)

pub returns-in-Ok-Ended-clause-turns : goal.returns-in-Ok-Ended-clause-turns
returns-in-Ok-Ended-clause-turns g c =
    subst (λ notice. Turns (is_here c.args.here) (g.G.Gpu.state c.args.gpu.now) (g.G.Gpu.state c.finish.new.gpu) c.args.self.now c.finish.new.self (turned (private_of (g.G.Gpu.state c.args.gpu.now) c.args.self.now (is_here c.args.here)) c.args.engine.0) outcomes.Ended notice) (sym c.injected-in-Ok-Ended.ensures)
    (step-ended-turns (g.G.Gpu.state c.args.gpu.now) c.args.self.now (is_here c.args.here) c.args.engine.0 c.requires.holds c.requires.engine c.requires.own c.requires.work (g.G.Gpu.state c.one_step.new.gpu) c.in-Ok-Ended.field-0 c.in-Ok-Ended.ensures.made
    (g.G.Gpu.state c.finish.new.gpu) c.finish.new.self (injected c.finish.result) c.in-Ok-Ended.field-0-is c.finish.ensures.completes)

pub returns-in-Ok-clause-turns : goal.returns-in-Ok-clause-turns
returns-in-Ok-clause-turns g c =
    step-failed-turns (g.G.Gpu.state c.args.gpu.now) c.args.self.now (is_here c.args.here) c.args.engine.0 c.requires.holds c.requires.engine c.requires.own c.requires.work (g.G.Gpu.state c.one_step.new.gpu) c.in-Ok-Unlisted.field-0 c.in-Ok-Unlisted.ensures.made c.in-Ok-Unlisted.field-0-is
    (g.G.Gpu.state c.fail.new.gpu) c.fail.new.self c.in-Ok.notice
    (IfOk-at_ok (λ (notice : Notice). Makes (is_here c.args.here) (g.G.Gpu.state c.one_step.new.gpu) (g.G.Gpu.state c.fail.new.gpu) c.args.self.now c.fail.new.self (fails (private_of (g.G.Gpu.state c.one_step.new.gpu) c.args.self.now (is_here c.args.here)) Command) notice)
    c.in-Ok.ensures.ok c.fail.ensures.failed)

pub returns-in-Err-or_stop-clause-stops : goal.returns-in-Err-or_stop-clause-stops
returns-in-Err-or_stop-clause-stops g c =
    step-failed-stops (g.G.Gpu.state c.args.gpu.now) c.args.self.now (is_here c.args.here) c.args.engine.0 c.requires.holds c.requires.engine c.requires.own c.requires.work (g.G.Gpu.state c.one_step.new.gpu) c.in-Ok-Unlisted.field-0 c.in-Ok-Unlisted.ensures.made c.in-Ok-Unlisted.field-0-is
    (g.G.Gpu.state c.fail.new.gpu) c.in-Err-or_stop.stop
    (subst (λ stop. Stops (is_here c.args.here) (g.G.Gpu.state c.one_step.new.gpu) (g.G.Gpu.state c.fail.new.gpu) c.args.self.now stop) (sym c.in-Err-or_stop.ensures.fault.0)
    (after-error (Stops (is_here c.args.here) (g.G.Gpu.state c.one_step.new.gpu) (g.G.Gpu.state c.fail.new.gpu) c.args.self.now DeviceFault) c.fail.result c.in-Err-or_stop.ensures.fault.1 c.fail.ensures.faults))

-- ---- one step

pub returns-in-Ok-Ran-clause-once : goal.returns-in-Ok-Ran-clause-once
returns-in-Ok-Ran-clause-once g c =
    step-ran-once (g.G.Gpu.state c.args.gpu.now) c.args.self.now (is_here c.args.here) c.args.engine.0 c.requires.holds c.requires.engine c.requires.own c.requires.work (g.G.Gpu.state c.one_step.new.gpu) c.in-Ok-Ran.field-0 c.in-Ok-Ran.ensures.made
    c.in-Ok-Ran.field-0-0 c.in-Ok-Ran.raise c.ran.new.self c.in-Ok-Ran.field-0-is

pub returns-in-Ok-Waits-clause-once : goal.returns-in-Ok-Waits-clause-once
returns-in-Ok-Waits-clause-once g c =
    step-waited-once (g.G.Gpu.state c.args.gpu.now) c.args.self.now (is_here c.args.here) c.args.engine.0 c.requires.holds c.requires.engine c.requires.own c.requires.work (g.G.Gpu.state c.one_step.new.gpu) c.in-Ok-Waits.field-0 c.in-Ok-Waits.ensures.made c.in-Ok-Waits.field-0-is

pub returns-in-Ok-Ended-clause-once : goal.returns-in-Ok-Ended-clause-once
returns-in-Ok-Ended-clause-once g c =
    step-ended-once (g.G.Gpu.state c.args.gpu.now) c.args.self.now (is_here c.args.here) c.args.engine.0 c.requires.holds c.requires.engine c.requires.own c.requires.work (g.G.Gpu.state c.one_step.new.gpu) c.in-Ok-Ended.field-0 c.in-Ok-Ended.ensures.made
    (g.G.Gpu.state c.finish.new.gpu) c.finish.new.self (injected c.finish.result) c.in-Ok-Ended.field-0-is c.finish.ensures.completes c.finish.ensures.engines

pub returns-in-Ok-clause-once : goal.returns-in-Ok-clause-once
returns-in-Ok-clause-once g c =
    step-failed-once (g.G.Gpu.state c.args.gpu.now) c.args.self.now (is_here c.args.here) c.args.engine.0 c.requires.holds c.requires.engine c.requires.own c.requires.work (g.G.Gpu.state c.one_step.new.gpu) c.in-Ok-Unlisted.field-0 c.in-Ok-Unlisted.ensures.made
    (g.G.Gpu.state c.fail.new.gpu) c.fail.new.self c.in-Ok.notice c.in-Ok-Unlisted.field-0-is
    (IfOk-at_ok (λ (notice : Notice). Makes (is_here c.args.here) (g.G.Gpu.state c.one_step.new.gpu) (g.G.Gpu.state c.fail.new.gpu) c.args.self.now c.fail.new.self (fails (private_of (g.G.Gpu.state c.one_step.new.gpu) c.args.self.now (is_here c.args.here)) Command) notice)
    c.in-Ok.ensures.ok c.fail.ensures.failed)
