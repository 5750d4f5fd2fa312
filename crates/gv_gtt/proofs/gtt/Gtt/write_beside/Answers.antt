use Rattle.gv_gtt.proofs.Unguarded.{translates-written}
use Rattle.gv_gtt.proofs.gtt.Gtt.write_beside.Goals as goal

pub returns-clause-translates : goal.returns-clause-translates
returns-clause-translates g c =
    translates-written (g.G.Gpu.state c.args.gpu.now) (g.G.Gpu.state c.write.new.gpu) c.args.self.now 1 c.args.width c.args.at c.args.value c.requires.translates c.write.ensures.stands c.write.ensures.changes c.write.ensures.memory c.requires.beside
