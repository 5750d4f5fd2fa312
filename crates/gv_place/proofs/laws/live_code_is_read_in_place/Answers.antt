use Rattle.gv_place.proofs.LiveBatch.{live-fetched, live-after}
use Rattle.gv_place.proofs.laws.live_code_is_read_in_place.Goals as goal

pub returns-clause-read : goal.returns-clause-read
returns-clause-read c = live-fetched

pub returns-clause-passed : goal.returns-clause-passed
returns-clause-passed c = live-after
