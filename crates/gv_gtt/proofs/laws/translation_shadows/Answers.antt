use Rattle.gv_gtt.proofs.Standing.{translation_shadows}
use Rattle.gv_gtt.proofs.laws.translation_shadows.Goals as goal

pub returns : goal.returns
returns c = translation_shadows
