use Rattle.gv_gtt.proofs.Following.{told-changes}
use Rattle.gv_gtt.proofs.Steps.{serving-tables, stands-tables, tables-changes}
use Rattle.gv_gtt.proofs.gtt.Gtt.take_root.Goals as goal

pub returns-in_err-changed-clause-stands : goal.returns-in_err-changed-clause-stands
returns-in_err-changed-clause-stands g c =
    let w = c.destroy in
    stands-tables (g.G.Gpu.state c.args.gpu.now) (g.G.Gpu.state w.new.gpu) c.args.self.now w.new.memory w.new.self c.requires.translates.serving.stands w.ensures.frames w.ensures.holds w.ensures.changes

pub returns-in_err-changed-clause-changes : goal.returns-in_err-changed-clause-changes
returns-in_err-changed-clause-changes g c =
    let w = c.destroy in
    tables-changes (g.G.Gpu.state c.args.gpu.now) (g.G.Gpu.state w.new.gpu) c.args.self.now w.new.memory w.new.self w.ensures.frames w.ensures.changes

pub tell-requires-clause-serving : goal.tell-requires-clause-serving
tell-requires-clause-serving g c =
    let w = c.destroy in
    serving-tables (g.G.Gpu.state c.args.gpu.now) (g.G.Gpu.state w.new.gpu) c.args.self.now w.new.memory w.new.self c.requires.translates.serving.stands w.ensures.frames c.in_ok-changed.ensures.serves w.ensures.changes

pub returns-clause-changes : goal.returns-clause-changes
returns-clause-changes g c =
    let w = c.destroy in
    told-changes (g.G.Gpu.state c.args.gpu.now) (g.G.Gpu.state w.new.gpu) (g.G.Gpu.state c.tell.new.gpu) c.args.self.now w.new.memory w.new.self c.tell.new.self w.ensures.frames w.ensures.changes c.tell.ensures.changes
