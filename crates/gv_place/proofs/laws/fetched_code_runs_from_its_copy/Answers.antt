use Rattle.gv_place.proofs.Runs.{runs-fetched}
use Rattle.gv_place.proofs.laws.fetched_code_runs_from_its_copy.Goals as goal

pub returns : goal.returns
returns c = runs-fetched
