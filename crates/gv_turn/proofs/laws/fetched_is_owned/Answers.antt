use Rattle.gv_turn.proofs.Owned.{begins_owned}
use Rattle.gv_turn.proofs.laws.fetched_is_owned.Goals as goal

pub returns : goal.returns
returns c = begins_owned
