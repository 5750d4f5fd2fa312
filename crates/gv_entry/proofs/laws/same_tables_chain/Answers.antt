use Rattle.gv_entry.proofs.SameTables.{same_tables_chain}
use Rattle.gv_entry.proofs.laws.same_tables_chain.Goals as goal

pub returns : goal.returns
returns c = same_tables_chain
