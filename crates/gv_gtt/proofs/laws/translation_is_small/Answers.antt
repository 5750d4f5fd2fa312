use Rattle.gv_gtt.proofs.Standing.{translation_is_small}
use Rattle.gv_gtt.proofs.laws.translation_is_small.Goals as goal

pub returns : goal.returns
returns c = translation_is_small
