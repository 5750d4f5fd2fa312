use Rattle.gv_shape.proofs.Shadows.{shadows_keep}
use Rattle.gv_shape.proofs.laws.shadows_keep.Goals as goal

pub returns : goal.returns
returns c = shadows_keep
