use Rattle.std.proofs.Common.{◌-◌, arith}
use Rattle.gv_track.proofs.Levels.{levels_in-or, or_below}
use Rattle.gv_track.proofs.track.with_level.Goals as goal

pub returns-clause-levels : goal.returns-clause-levels
returns-clause-levels c = levels_in-or c.args.roles (c.args.level - 1) (omega arith)

pub returns-clause-few : goal.returns-clause-few
returns-clause-few c = or_below c.args.roles (c.args.level - 1) c.requires.few (omega arith)
