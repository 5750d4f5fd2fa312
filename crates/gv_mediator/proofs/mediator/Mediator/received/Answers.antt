use Rattle.std.proofs.Common.{sym, subst}
use Rattle.gv_types.specs.declared.event.Event.{Event}
use Rattle.gv_mediator.specs.Answers.{Answers}
use Rattle.gv_mediator.proofs.Answering.{switch-answers}
use Rattle.gv_mediator.proofs.mediator.Mediator.received.Goals as goal

pub returns-in-Ok-clause-answers : goal.returns-in-Ok-clause-answers
returns-in-Ok-clause-answers g c =
    let d = g.G.Gpu.state c.args.gpu.now in
    let e = g.G.Gpu.state c.switch.new.gpu in
    let m = c.args.self.now in
    let switched = c.in-Ok.ensures in
    subst (λ (one : Event). Answers d e m c.switch.new.self one c.in-Ok.reply) (sym c.in-Switch.is)
    (switch-answers d e m c.switch.new.self c.in-Switch.engine c.in-Ok.reply switched.reply switched.machine switched.tied switched.ran switched.quiet switched.copies)
