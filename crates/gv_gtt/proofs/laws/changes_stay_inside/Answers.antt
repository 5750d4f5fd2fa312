use Rattle.gv_gtt.proofs.Others.{changes_stay_inside}
use Rattle.gv_gtt.proofs.laws.changes_stay_inside.Goals as goal

pub returns : goal.returns
returns c = changes_stay_inside
