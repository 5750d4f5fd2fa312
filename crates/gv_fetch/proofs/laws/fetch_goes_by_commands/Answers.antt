use Rattle.gv_fetch.proofs.Ends.{batch-step, ring-step}
use Rattle.gv_fetch.proofs.laws.fetch_goes_by_commands.Goals as goal

pub returns-clause-batch : goal.returns-clause-batch
returns-clause-batch c = batch-step

pub returns-clause-ring : goal.returns-clause-ring
returns-clause-ring c = ring-step
