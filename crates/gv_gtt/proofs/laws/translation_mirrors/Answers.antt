use Rattle.gv_gtt.proofs.Standing.{translation_mirrors}
use Rattle.gv_gtt.proofs.laws.translation_mirrors.Goals as goal

pub returns : goal.returns
returns c = translation_mirrors
