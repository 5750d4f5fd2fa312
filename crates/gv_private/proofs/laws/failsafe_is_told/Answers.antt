use Rattle.gv_private.proofs.Told.{failsafe_is_told}
use Rattle.gv_private.proofs.laws.failsafe_is_told.Goals as goal

pub returns : goal.returns
returns c = failsafe_is_told
