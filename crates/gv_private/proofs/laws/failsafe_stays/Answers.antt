use Rattle.gv_private.proofs.Failsafe.{only_memory_changes, failsafe_stays}
use Rattle.gv_private.proofs.laws.failsafe_stays.Goals as goal

pub returns-clause-memory : goal.returns-clause-memory
returns-clause-memory c = only_memory_changes

pub returns-clause-failed : goal.returns-clause-failed
returns-clause-failed c = failsafe_stays
