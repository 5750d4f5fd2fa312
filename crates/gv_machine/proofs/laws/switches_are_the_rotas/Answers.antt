use Rattle.gv_machine.proofs.Rotas.{first_owners_are_the_rotas, switches_are_the_rotas, switches_go_round, devices_keep_owners}
use Rattle.gv_machine.proofs.laws.switches_are_the_rotas.Goals as goal

pub returns-clause-first : goal.returns-clause-first
returns-clause-first c = first_owners_are_the_rotas

pub returns-clause-switches : goal.returns-clause-switches
returns-clause-switches c = switches_are_the_rotas

pub returns-clause-round : goal.returns-clause-round
returns-clause-round c = switches_go_round

pub returns-clause-others : goal.returns-clause-others
returns-clause-others c = devices_keep_owners
