use Rattle.gv_private.proofs.Elements.{element_stays}
use Rattle.gv_private.proofs.laws.element_stays.Goals as goal

pub returns : goal.returns
returns c = element_stays
