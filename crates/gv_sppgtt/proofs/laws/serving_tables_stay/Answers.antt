use Rattle.gv_sppgtt.proofs.Standing.{serving_tables_stay}
use Rattle.gv_sppgtt.proofs.laws.serving_tables_stay.Goals as goal

pub returns : goal.returns
returns c = serving_tables_stay
