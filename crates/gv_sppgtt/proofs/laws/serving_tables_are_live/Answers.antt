use Rattle.gv_sppgtt.proofs.Meaning.{serving_tables_are_live}
use Rattle.gv_sppgtt.proofs.laws.serving_tables_are_live.Goals as goal

pub returns : goal.returns
returns c = serving_tables_are_live
