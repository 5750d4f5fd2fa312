use Rattle.gv_cmd.proofs.Alignment.{accesses_are_aligned}
use Rattle.gv_cmd.proofs.laws.accesses_are_aligned.Goals as goal

pub returns : goal.returns
returns c = accesses_are_aligned
