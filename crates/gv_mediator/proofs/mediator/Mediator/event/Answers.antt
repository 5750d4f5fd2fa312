use Rattle.gv_mediator.proofs.Answering.{answers-still}
use Rattle.gv_mediator.proofs.Receiving.{ok-all}
use Rattle.gv_mediator.proofs.mediator.Mediator.event.Goals as goal

pub returns-clause-answers : goal.returns-clause-answers
returns-clause-answers g c = ok-all c.received-answer.result _ _ c.received-answer.ensures.answers (λ reply given. answers-still given c.is_err-self.result)
