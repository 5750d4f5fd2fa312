use Rattle.gv_cmd.proofs.Local.{live_is_local}
use Rattle.gv_cmd.proofs.laws.live_commands_are_local.Goals as goal

pub returns : goal.returns
returns c = live_is_local
