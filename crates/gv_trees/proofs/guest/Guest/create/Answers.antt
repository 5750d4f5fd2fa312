use Rattle.gv_trees.proofs.Kept.{served-after, held-after}
use Rattle.gv_trees.proofs.guest.Guest.create.Goals as goal

pub give_up-requires : goal.give_up-requires
give_up-requires g c = held-after (g.G.Gpu.state c.args.gpu.now) (g.G.Gpu.state c.create.new.gpu) c.args.self.now.memory c.create.new.memory c.args.self.now.tables c.create.new.self c.in-Err.ensures.frames c.in-Err.ensures.changes c.requires.own c.in-Err.ensures.holds

pub returns-in-Ok : goal.returns-in-Ok
returns-in-Ok g c = served-after (g.G.Gpu.state c.args.gpu.now) (g.G.Gpu.state c.create.new.gpu) c.args.self.now.memory c.create.new.memory c.args.self.now.tables c.create.new.self c.in-Ok.ensures.frames c.in-Ok.ensures.changes c.requires.own c.in-Ok.ensures.serves
