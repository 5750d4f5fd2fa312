use Rattle.gv_sppgtt.proofs.Meaning.{serving_tables_tell}
use Rattle.gv_sppgtt.proofs.laws.serving_tables_tell.Goals as goal

pub returns : goal.returns
returns c = serving_tables_tell
