use Rattle.gv_guest.specs.Placed.{memory_in}
use Rattle.gv_trees.proofs.Kept.{served-after, no-shadows}
use Rattle.gv_trees.proofs.guest.Guest.clear.Goals as goal

pub returns-clause-served : goal.returns-clause-served
returns-clause-served g c =
    served-after (g.G.Gpu.state c.args.gpu.now) (g.G.Gpu.state c.clear.new.gpu) c.args.self.now.memory c.clear.new.memory c.args.self.now.tables c.clear.new.self c.clear.ensures.frames c.clear.ensures.changes c.requires.own (c.clear.ensures.serves (memory_in (g.G.Gpu.state c.clear.new.gpu) c.clear.new.memory.frames))

pub returns-clause-none : goal.returns-clause-none
returns-clause-none g c =
    let served = returns-clause-served g c in
    no-shadows (g.G.Gpu.state c.clear.new.gpu) c.clear.new.self c.clear.new.memory.frames.guest served.serves.holds.nodes c.clear.ensures.none served.own
