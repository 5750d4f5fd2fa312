use Rattle.gv_machine.proofs.Guests.{guests_stay, machines_have_their_guests}
use Rattle.gv_machine.proofs.laws.guests_stay.Goals as goal

pub returns-clause-inputs : goal.returns-clause-inputs
returns-clause-inputs c = guests_stay

pub returns-clause-scripts : goal.returns-clause-scripts
returns-clause-scripts c = machines_have_their_guests
