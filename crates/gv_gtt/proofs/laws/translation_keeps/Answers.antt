use Rattle.gv_gtt.proofs.Standing.{translation_keeps}
use Rattle.gv_gtt.proofs.laws.translation_keeps.Goals as goal

pub returns : goal.returns
returns c = translation_keeps
