use Rattle.gv_shape.proofs.Shadows.{shadows_reach}
use Rattle.gv_shape.proofs.laws.shadows_reach.Goals as goal

pub returns : goal.returns
returns c = shadows_reach
