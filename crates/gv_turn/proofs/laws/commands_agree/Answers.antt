use Rattle.gv_turn.proofs.Simulated.{commands_agree}
use Rattle.gv_turn.proofs.Owned.{live_code_may}
use Rattle.gv_turn.proofs.laws.commands_agree.Goals as goal

pub returns-clause-agree : goal.returns-clause-agree
returns-clause-agree c = commands_agree

pub returns-clause-live : goal.returns-clause-live
returns-clause-live c = live_code_may
