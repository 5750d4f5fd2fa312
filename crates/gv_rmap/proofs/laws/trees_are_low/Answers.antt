use Rattle.gv_rmap.proofs.Heights.{has-leaves}
use Rattle.gv_rmap.proofs.laws.trees_are_low.Goals as goal

pub returns : goal.returns
returns c = has-leaves
