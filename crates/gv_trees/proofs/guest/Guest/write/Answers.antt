use Rattle.std.proofs.Common.{arith}
use Rattle.gv_trees.proofs.Kept.{write-serves, write-owns, served-after, held-after}
use Rattle.gv_trees.proofs.guest.Guest.write.Goals as goal

pub written-requires-clause-serves : goal.written-requires-clause-serves
written-requires-clause-serves g c =
    write-serves (g.G.Gpu.state c.args.gpu.now) (g.G.Gpu.state c.write.new.gpu) c.args.self.now.memory.frames c.args.self.now.memory.pins c.args.self.now.tables c.args.at c.args.value c.requires.serves (omega arith) c.write.ensures.stands c.write.ensures.memory c.write.ensures.changes

pub give_up-requires : goal.give_up-requires
give_up-requires g c =
    let own = write-owns (g.G.Gpu.state c.args.gpu.now) (g.G.Gpu.state c.write.new.gpu) c.args.self.now.memory.frames c.args.self.now.memory.pins c.args.self.now.tables c.args.at c.args.value c.requires.serves (omega arith) c.write.ensures.stands c.write.ensures.memory c.write.ensures.changes c.requires.own in
    held-after (g.G.Gpu.state c.write.new.gpu) (g.G.Gpu.state c.written.new.gpu) c.args.self.now.memory c.written.new.memory c.args.self.now.tables c.written.new.self c.in-Err.ensures.frames c.in-Err.ensures.changes own c.in-Err.ensures.holds

pub returns-in-Ok : goal.returns-in-Ok
returns-in-Ok g c =
    let own = write-owns (g.G.Gpu.state c.args.gpu.now) (g.G.Gpu.state c.write.new.gpu) c.args.self.now.memory.frames c.args.self.now.memory.pins c.args.self.now.tables c.args.at c.args.value c.requires.serves (omega arith) c.write.ensures.stands c.write.ensures.memory c.write.ensures.changes c.requires.own in
    served-after (g.G.Gpu.state c.write.new.gpu) (g.G.Gpu.state c.written.new.gpu) c.args.self.now.memory c.written.new.memory c.args.self.now.tables c.written.new.self c.in-Ok.ensures.frames c.in-Ok.ensures.changes own c.in-Ok.ensures.serves
