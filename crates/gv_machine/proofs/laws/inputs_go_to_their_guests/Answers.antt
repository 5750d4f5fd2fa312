use Rattle.gv_machine.proofs.Inputs.{inputs_name_their_guest}
use Rattle.gv_machine.proofs.Taken.{turns_are_the_owners}
use Rattle.gv_machine.proofs.laws.inputs_go_to_their_guests.Goals as goal

pub returns-clause-named : goal.returns-clause-named
returns-clause-named c = inputs_name_their_guest

pub returns-clause-turns : goal.returns-clause-turns
returns-clause-turns c = turns_are_the_owners
