use Rattle.gv_turn.proofs.Keeping.{writes_keep_work, raising_keeps_work, events_keep_work, finishing_keeps_work}
use Rattle.gv_turn.proofs.Standing.{part_keeps_work}
use Rattle.gv_turn.proofs.laws.work_is_kept.Goals as goal

pub returns-clause-writes : goal.returns-clause-writes
returns-clause-writes c = writes_keep_work

pub returns-clause-raising : goal.returns-clause-raising
returns-clause-raising c = raising_keeps_work

pub returns-clause-events : goal.returns-clause-events
returns-clause-events c = events_keep_work

pub returns-clause-finishing : goal.returns-clause-finishing
returns-clause-finishing c = finishing_keeps_work

pub returns-clause-part : goal.returns-clause-part
returns-clause-part c = part_keeps_work
