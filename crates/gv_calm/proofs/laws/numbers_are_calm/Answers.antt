use Rattle.gv_calm.proofs.Quiet.{no_reply_tells_failsafe, no_device_is_in_failsafe}
use Rattle.gv_calm.proofs.Said.{no_line_tells_failsafe}
use Rattle.gv_calm.proofs.laws.numbers_are_calm.Goals as goal

pub returns-clause-replies : goal.returns-clause-replies
returns-clause-replies c = no_reply_tells_failsafe

pub returns-clause-devices : goal.returns-clause-devices
returns-clause-devices c = no_device_is_in_failsafe

pub returns-clause-lines : goal.returns-clause-lines
returns-clause-lines c = no_line_tells_failsafe
