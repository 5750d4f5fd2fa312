use Rattle.std.proofs.Common.{arith}
use Rattle.std.proofs.lemmas.Grind.{common_steps}
use Rattle.gv_track.proofs.Levels.{bits_none}
use Rattle.gv_track.proofs.track.Track.roles.Goals as goal

pub returns-clause-none : goal.returns-clause-none
returns-clause-none c = bits_none c.args.self.now c.args.frame _ (grind (arith, common_steps))
