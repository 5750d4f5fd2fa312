use Rattle.std.proofs.Common.{◌∙◌}
use Rattle.gv_arena.proofs.Fields.{live_are}
use Rattle.gv_arena.proofs.arena.Arena.live.Goals as goal

pub returns-clause-live : goal.returns-clause-live
returns-clause-live c = c.live.ensures.live ∙ live_are c.self.inside c.args.self.now c.self.invariant c.self.view_is
