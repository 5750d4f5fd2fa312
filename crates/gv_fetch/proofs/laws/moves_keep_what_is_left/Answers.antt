use Rattle.gv_fetch.proofs.Moving.{fetched-moves, live-moves}
use Rattle.gv_fetch.proofs.laws.moves_keep_what_is_left.Goals as goal

pub returns-clause-fetched : goal.returns-clause-fetched
returns-clause-fetched c = fetched-moves

pub returns-clause-live : goal.returns-clause-live
returns-clause-live c = live-moves
