use Rattle.gv_exact.proofs.Steps.{exact_grants, ungranted_is_spared}
use Rattle.gv_exact.proofs.laws.steps_touch_what_is_granted.Goals as goal

pub returns-clause-exact : goal.returns-clause-exact
returns-clause-exact c = exact_grants

pub returns-clause-spares : goal.returns-clause-spares
returns-clause-spares c = ungranted_is_spared
