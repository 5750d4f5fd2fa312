use Rattle.gv_sppgtt.proofs.Cleared.{cleared-changes, cleared-label, cleared-none, cleared-pins, cleared-ready, cleared-roots, cleared-serves}
use Rattle.gv_sppgtt.proofs.tables.Tables.clear.Goals as goal

pub returns-clause-none : goal.returns-clause-none
returns-clause-none g c =
    let a = c.drop_all in
    let f = c.forget.ensures in
    cleared-none (g.G.Gpu.state c.args.gpu.now) (g.G.Gpu.state a.new.gpu) c.args.memory.now.frames c.args.self.now a.new.self c.forget.new.self c.args.memory.now.pins a.new.pins
    a.ensures.holds a.ensures.keeps a.ensures.none f.told f.long f.untouched f.nodes f.owners f.chains f.guest

pub returns-clause-roots : goal.returns-clause-roots
returns-clause-roots g c =
    let a = c.drop_all in
    let f = c.forget.ensures in
    cleared-roots (g.G.Gpu.state c.args.gpu.now) (g.G.Gpu.state a.new.gpu) c.args.memory.now.frames c.args.self.now a.new.self c.forget.new.self c.args.memory.now.pins a.new.pins
    a.ensures.holds a.ensures.keeps a.ensures.none f.told f.long f.untouched f.nodes f.owners f.chains f.guest

pub returns-clause-pins : goal.returns-clause-pins
returns-clause-pins g c =
    let a = c.drop_all in
    let f = c.forget.ensures in
    cleared-pins (g.G.Gpu.state c.args.gpu.now) (g.G.Gpu.state a.new.gpu) c.args.memory.now.frames c.args.self.now a.new.self c.forget.new.self c.args.memory.now.pins a.new.pins
    a.ensures.holds a.ensures.keeps a.ensures.none f.told f.long f.untouched f.nodes f.owners f.chains f.guest

pub returns-clause-serves : goal.returns-clause-serves
returns-clause-serves g c =
    let a = c.drop_all in
    let f = c.forget.ensures in
    cleared-serves (g.G.Gpu.state c.args.gpu.now) (g.G.Gpu.state a.new.gpu) c.args.memory.now.frames c.args.self.now a.new.self c.forget.new.self c.args.memory.now.pins a.new.pins
    a.ensures.holds a.ensures.keeps a.ensures.none f.told f.long f.untouched f.nodes f.owners f.chains f.guest

pub returns-clause-ready : goal.returns-clause-ready
returns-clause-ready g c =
    let a = c.drop_all in
    let f = c.forget.ensures in
    cleared-ready (g.G.Gpu.state c.args.gpu.now) (g.G.Gpu.state a.new.gpu) c.args.memory.now.frames c.args.self.now a.new.self c.forget.new.self c.args.memory.now.pins a.new.pins
    a.ensures.holds a.ensures.keeps a.ensures.none f.told f.long f.untouched f.nodes f.owners f.chains f.guest

pub returns-clause-changes : goal.returns-clause-changes
returns-clause-changes g c =
    let a = c.drop_all in
    let f = c.forget.ensures in
    cleared-changes (g.G.Gpu.state c.args.gpu.now) (g.G.Gpu.state a.new.gpu) c.args.memory.now.frames c.args.self.now a.new.self c.forget.new.self c.args.memory.now.pins a.new.pins
    a.ensures.holds a.ensures.keeps a.ensures.none f.told f.long f.untouched f.nodes f.owners f.chains f.guest

pub returns-clause-released : goal.returns-clause-released
returns-clause-released g c =
    let a = c.drop_all in
    let f = c.forget.ensures in
    cleared-label (g.G.Gpu.state c.args.gpu.now) (g.G.Gpu.state a.new.gpu) c.args.memory.now.frames c.args.self.now a.new.self c.forget.new.self c.args.memory.now.pins a.new.pins
    a.ensures.holds a.ensures.keeps a.ensures.none f.told f.long f.untouched f.nodes f.owners f.chains f.guest c.requires.holds
