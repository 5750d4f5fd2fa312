use Rattle.gv_machine.proofs.Ran.{turns_alone_run}
use Rattle.gv_machine.proofs.Signed.{commands_are_signed}
use Rattle.gv_machine.proofs.laws.turns_alone_run.Goals as goal

pub returns-clause-turns : goal.returns-clause-turns
returns-clause-turns c = turns_alone_run

pub returns-clause-signed : goal.returns-clause-signed
returns-clause-signed c = commands_are_signed
