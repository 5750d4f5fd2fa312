use Rattle.gv_fetch.proofs.Going.{moves-stay-bounded}
use Rattle.gv_fetch.proofs.Sizes.{fetched-bounded}
use Rattle.gv_fetch.proofs.laws.what_is_left_is_bounded.Goals as goal

pub returns-clause-begun : goal.returns-clause-begun
returns-clause-begun c = fetched-bounded

pub returns-clause-moved : goal.returns-clause-moved
returns-clause-moved c = moves-stay-bounded
