use Rattle.gv_gtt.proofs.Others.{changes_leave_others}
use Rattle.gv_gtt.proofs.laws.changes_leave_others.Goals as goal

pub returns : goal.returns
returns c = changes_leave_others
