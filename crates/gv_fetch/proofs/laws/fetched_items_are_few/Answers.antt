use Rattle.gv_fetch.proofs.Fetched.{fetched-short}
use Rattle.gv_fetch.proofs.laws.fetched_items_are_few.Goals as goal

pub returns : goal.returns
returns c = fetched-short
