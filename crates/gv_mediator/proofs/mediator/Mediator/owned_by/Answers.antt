use Rattle.std.proofs.Common.{◌==◌}
use Rattle.gv_mediator.specs.Rota.{owners_in, owns}
use Rattle.gv_mediator.proofs.Owning.{here-is, none-past}
use Rattle.gv_mediator.proofs.mediator.Mediator.owned_by.Goals as goal

pub returns : goal.returns
returns c =
    here-is _ _ _ _ (owns (owners_in c.args.self.now.rota) c.args.guest.0)
    (λ i. c.owner.ensures.owner i == c.args.guest.0)
    (λ i. c.owner-2.ensures.owner i == c.args.guest.0)
    (λ i. c.owner-3.ensures.owner i == c.args.guest.0)
    (λ i. c.owner-4.ensures.owner i == c.args.guest.0)
    (none-past c.args.self.now.rota c.args.guest.0)
