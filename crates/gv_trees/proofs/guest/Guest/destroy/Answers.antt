use Rattle.gv_trees.proofs.Kept.{served-after, held-after}
use Rattle.gv_trees.proofs.guest.Guest.destroy.Goals as goal

pub clear-requires : goal.clear-requires
clear-requires g c = held-after (g.G.Gpu.state c.args.gpu.now) (g.G.Gpu.state c.destroy.new.gpu) c.args.self.now.memory c.destroy.new.memory c.args.self.now.tables c.destroy.new.self c.in-Err.ensures.frames c.in-Err.ensures.changes c.requires.own c.in-Err.ensures.holds

pub returns-in-Ok : goal.returns-in-Ok
returns-in-Ok g c = served-after (g.G.Gpu.state c.args.gpu.now) (g.G.Gpu.state c.destroy.new.gpu) c.args.self.now.memory c.destroy.new.memory c.args.self.now.tables c.destroy.new.self c.in-Ok.ensures.frames c.in-Ok.ensures.changes c.requires.own c.in-Ok.ensures.serves
