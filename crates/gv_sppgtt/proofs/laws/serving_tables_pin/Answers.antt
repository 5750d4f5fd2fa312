use Rattle.gv_sppgtt.proofs.AtRest.{serving_tables_pin}
use Rattle.gv_sppgtt.proofs.laws.serving_tables_pin.Goals as goal

pub returns : goal.returns
returns c = serving_tables_pin
