use Rattle.gv_gtt.proofs.Standing.{translated_stays}
use Rattle.gv_gtt.proofs.laws.translated_stays.Goals as goal

pub returns : goal.returns
returns c = translated_stays
