use Rattle.gv_sppgtt.proofs.AtRest.{serving_tables_chain}
use Rattle.gv_sppgtt.proofs.laws.serving_tables_chain.Goals as goal

pub returns : goal.returns
returns c = serving_tables_chain
