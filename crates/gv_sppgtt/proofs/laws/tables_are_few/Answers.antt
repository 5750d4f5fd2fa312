use Rattle.gv_sppgtt.proofs.Few.{tables_are_few}
use Rattle.gv_sppgtt.proofs.laws.tables_are_few.Goals as goal

pub returns : goal.returns
returns c = tables_are_few
