use Rattle.gv_turn.proofs.Steps.{step_is_turn}
use Rattle.gv_turn.proofs.laws.steps_are_turns.Goals as goal

pub returns : goal.returns
returns c = step_is_turn
