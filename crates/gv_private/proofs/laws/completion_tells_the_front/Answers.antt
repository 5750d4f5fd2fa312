use Rattle.gv_private.proofs.Completion.{completion_tells_the_front}
use Rattle.gv_private.proofs.laws.completion_tells_the_front.Goals as goal

pub returns : goal.returns
returns c = completion_tells_the_front
