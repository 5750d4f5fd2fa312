use Rattle.gv_exact.proofs.Touches.{touches_agree}
use Rattle.gv_exact.proofs.laws.touches_agree.Goals as goal

pub returns : goal.returns
returns c = touches_agree
