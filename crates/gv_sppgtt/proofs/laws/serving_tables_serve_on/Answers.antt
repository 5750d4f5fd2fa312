use Rattle.gv_sppgtt.proofs.AtRest.{serving_tables_serve_on}
use Rattle.gv_sppgtt.proofs.laws.serving_tables_serve_on.Goals as goal

pub returns : goal.returns
returns c = serving_tables_serve_on
