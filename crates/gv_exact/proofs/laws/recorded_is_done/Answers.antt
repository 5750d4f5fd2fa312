use Rattle.gv_exact.proofs.Touches.{recorded_is_done}
use Rattle.gv_exact.proofs.laws.recorded_is_done.Goals as goal

pub returns : goal.returns
returns c = recorded_is_done
