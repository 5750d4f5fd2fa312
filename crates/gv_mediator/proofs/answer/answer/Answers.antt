use Rattle.std.proofs.Common.{Err, ap, sym, subst}
use Rattle.std.proofs.lemmas.Result.{err_from_is_err_and}
use Rattle.gv_vgpu.specs.Owners.{is_here}
use Rattle.gv_mediator.specs.Answers.{DeviceStopsBy}
use Rattle.gv_mediator.proofs.Lacking.{turn-stops}
use Rattle.gv_mediator.proofs.answer.answer.Goals as goal

pub returns-in_err-turned-in-Turn-clause-stops : goal.returns-in_err-turned-in-Turn-clause-stops
returns-in_err-turned-in-Turn-clause-stops g c =
    let d = g.G.Gpu.state c.args.gpu.now in
    let e = g.G.Gpu.state c.turn.new.gpu in
    let stop = c.in_err-turned-in-Turn.field-0.0 in
    let p = err_from_is_err_and c.from_residual.result c.from_residual.ensures.1 in rw (p.1, p.2)
    (subst (λ event. DeviceStopsBy (is_here c.args.here) d e c.args.device.now event stop) (sym c.in-Turn.is)
    (turn-stops d e c.args.device.now (is_here c.args.here) c.in-Turn.engine stop c.in_err-turned-in-Turn.ensures.stops c.in_err-turned-in-Turn.ensures.busy (λ lack. c.in_err-turned-in-Turn.ensures.spare (ap Err lack))
    (λ lack. c.in_err-turned-in-Turn.ensures.unsubmitted (ap Err lack))))
