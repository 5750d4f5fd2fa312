use Rattle.gv_trees.proofs.Kept.{new-served}
use Rattle.gv_trees.proofs.guest.Guest.new.Goals as goal

pub returns : goal.returns
returns g c =
    let made = c.in_ok-memory.ensures in
    new-served (g.G.Gpu.state c.args.gpu.now) (g.G.Gpu.state c.new.new.gpu) c.in_ok-memory.memory c.in_ok-tables.tables 3 c.args.frames c.requires.empty c.requires.few made.guest made.stands made.frames made.pins made.live made.outside c.in_ok-tables.ensures
