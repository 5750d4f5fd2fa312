use Rattle.gv_entry.proofs.SameTables.{tables_decide}
use Rattle.gv_entry.proofs.laws.tables_decide.Goals as goal

pub returns : goal.returns
returns c = tables_decide
