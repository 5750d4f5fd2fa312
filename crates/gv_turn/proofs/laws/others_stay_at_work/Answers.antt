use Rattle.gv_turn.proofs.Others.{others_stay}
use Rattle.gv_turn.proofs.laws.others_stay_at_work.Goals as goal

pub returns : goal.returns
returns c = others_stay
