use Rattle.gv_gtt.proofs.Following.{written-follows}
use Rattle.gv_gtt.proofs.Steps.{changes-chain, frames-changes}
use Rattle.gv_gtt.proofs.gtt.Gtt.write_table.Goals as goal

pub follow-requires-clause-follows : goal.follow-requires-clause-follows
follow-requires-clause-follows g c =
    written-follows (g.G.Gpu.state c.args.gpu.now) (g.G.Gpu.state c.write.new.gpu) c.args.self.now 1 c.requires.translates c.write.ensures.stands c.write.ensures.changes c.args.width c.args.at c.args.value c.write.ensures.memory c.requires.within

pub returns-clause-changes : goal.returns-clause-changes
returns-clause-changes g c =
    let self = c.args.self.now in
    let e = g.G.Gpu.state c.write.new.gpu in
    changes-chain (g.G.Gpu.state c.args.gpu.now) e (g.G.Gpu.state c.follow.new.gpu) self self c.follow.new.self (frames-changes 1 (g.G.Gpu.state c.args.gpu.now) e self c.write.ensures.changes) c.follow.ensures.changes
