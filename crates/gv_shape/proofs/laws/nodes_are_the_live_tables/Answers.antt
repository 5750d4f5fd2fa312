use Rattle.gv_shape.proofs.Shadows.{nodes_are_the_live_tables}
use Rattle.gv_shape.proofs.laws.nodes_are_the_live_tables.Goals as goal

pub returns : goal.returns
returns c = nodes_are_the_live_tables
