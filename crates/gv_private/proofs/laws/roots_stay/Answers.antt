use Rattle.gv_private.proofs.Elements.{first_has_roots, roots_stay}
use Rattle.gv_private.proofs.laws.roots_stay.Goals as goal

pub returns-clause-first : goal.returns-clause-first
returns-clause-first c = first_has_roots

pub returns-clause-after : goal.returns-clause-after
returns-clause-after c = roots_stay
