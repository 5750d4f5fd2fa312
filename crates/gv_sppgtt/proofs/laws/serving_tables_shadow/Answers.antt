use Rattle.gv_sppgtt.proofs.Meaning.{serving_tables_shadow}
use Rattle.gv_sppgtt.proofs.laws.serving_tables_shadow.Goals as goal

pub returns : goal.returns
returns c = serving_tables_shadow
