use Rattle.gv_place.proofs.Stepping.{ends, ran, waits, ran-stands}
use Rattle.gv_place.proofs.laws.steps_are_the_guests_own.Goals as goal

pub returns-clause-ends : goal.returns-clause-ends
returns-clause-ends c = λ d image p engine l w is stands form done. ends d image p engine l w is stands form done

pub returns-clause-runs : goal.returns-clause-runs
returns-clause-runs c = λ d image p engine l w is stands form more priv ws runs raise may raises. ran d image p engine l w is stands form more priv ws runs raise may raises

pub returns-clause-waits : goal.returns-clause-waits
returns-clause-waits c = λ d image p engine l w is stands form more priv ws runs may none. waits d image p engine l w is stands form more priv ws runs may none

pub returns-clause-stands : goal.returns-clause-stands
returns-clause-stands c = λ d image p engine l w is stands form more priv ws runs keeps. ran-stands d image p engine l w is stands form more priv ws runs keeps
