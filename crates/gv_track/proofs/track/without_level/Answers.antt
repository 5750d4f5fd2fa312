use Rattle.std.proofs.Common.{◌-◌, arith}
use Rattle.gv_track.proofs.Levels.{levels_in-and}
use Rattle.gv_track.proofs.track.without_level.Goals as goal

pub returns-clause-levels : goal.returns-clause-levels
returns-clause-levels c = levels_in-and c.args.roles (c.args.level - 1) (omega arith)
