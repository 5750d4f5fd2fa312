use Rattle.gv_guest.proofs.Written.{memory-poked, frames-poked}
use Rattle.gv_guest.proofs.frames.Frames.set_word.Goals as goal

pub returns-clause-memory : goal.returns-clause-memory
returns-clause-memory g c =
    memory-poked (g.G.Gpu.state c.args.gpu.now) (g.G.Gpu.state c.poke.new.self) c.args.self.now c.args.number c.args.value _ c.requires.stands c.requires.within c.page_of-page.ensures c.poke.ensures

pub returns-clause-changes : goal.returns-clause-changes
returns-clause-changes g c =
    frames-poked (g.G.Gpu.state c.args.gpu.now) (g.G.Gpu.state c.poke.new.self) c.args.self.now c.args.number c.args.value _ c.requires.stands c.requires.within c.page_of-page.ensures c.poke.ensures
