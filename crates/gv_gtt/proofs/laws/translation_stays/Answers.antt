use Rattle.gv_gtt.proofs.Standing.{translation_stays}
use Rattle.gv_gtt.proofs.laws.translation_stays.Goals as goal

pub returns : goal.returns
returns c = translation_stays
