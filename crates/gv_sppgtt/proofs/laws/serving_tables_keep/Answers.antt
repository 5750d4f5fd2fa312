use Rattle.gv_sppgtt.proofs.Standing.{serving_tables_keep}
use Rattle.gv_sppgtt.proofs.laws.serving_tables_keep.Goals as goal

pub returns : goal.returns
returns c = serving_tables_keep
