use Rattle.std.proofs.Common.{[], ap}
use Rattle.gv_sggtt.specs.Table.{Table}
use Rattle.gv_gtt.proofs.RootCalls.{mid-serving, cleared-translates}
use Rattle.gv_gtt.proofs.Steps.{stands-pins, tables-changes, table-changes, table-step, changes-chain}
use Rattle.gv_gtt.proofs.gtt.Gtt.clear.Goals as goal

pub clear-requires-2-clause-stands : goal.clear-requires-2-clause-stands
clear-requires-2-clause-stands g c = (c.clear.ensures.serves []).holds.stands

pub clear-requires-2-clause-mirrors : goal.clear-requires-2-clause-mirrors
clear-requires-2-clause-mirrors g c =
    let self = c.args.self.now in
    let w = c.clear in
    let e = g.G.Gpu.state w.new.gpu in
    (mid-serving (g.G.Gpu.state c.args.gpu.now) e e self w.new.memory w.new.self w.new.memory self.table c.requires.stands w.ensures.frames w.ensures.changes w.ensures.serves w.ensures.guarded).stands.mirrors

pub clear-requires-2-clause-pinned : goal.clear-requires-2-clause-pinned
clear-requires-2-clause-pinned g c =
    let self = c.args.self.now in
    let w = c.clear in
    let e = g.G.Gpu.state w.new.gpu in
    stands-pins e (record self { memory = w.new.memory; tables = w.new.self })
    (mid-serving (g.G.Gpu.state c.args.gpu.now) e e self w.new.memory w.new.self w.new.memory self.table c.requires.stands w.ensures.frames w.ensures.changes w.ensures.serves w.ensures.guarded).stands

pub returns-clause-translates : goal.returns-clause-translates
returns-clause-translates g c =
    let self = c.args.self.now in
    let w = c.clear in
    let v = c.clear-2 in
    cleared-translates (g.G.Gpu.state c.args.gpu.now) (g.G.Gpu.state w.new.gpu) (g.G.Gpu.state v.new.gpu) self w.new.memory w.new.self v.new.memory v.new.self c.requires.stands w.ensures.frames w.ensures.changes w.ensures.serves w.ensures.guarded
    v.ensures.frames v.ensures.table v.ensures.mirrors v.ensures.pins v.ensures.changes

pub returns-clause-changes : goal.returns-clause-changes
returns-clause-changes g c =
    let self = c.args.self.now in
    let w = c.clear in
    let v = c.clear-2 in
    let d = g.G.Gpu.state c.args.gpu.now in
    let e = g.G.Gpu.state w.new.gpu in
    let f = g.G.Gpu.state v.new.gpu in
    changes-chain d e f self (record self { memory = w.new.memory; tables = w.new.self }) (record self { memory = v.new.memory; table = v.new.self; tables = w.new.self })
    (tables-changes d e self w.new.memory w.new.self w.ensures.frames w.ensures.changes)
    (table-changes e f (record self { memory = w.new.memory; tables = w.new.self }) (record self { memory = v.new.memory; table = v.new.self; tables = w.new.self })
    (table-step e f (record self { memory = w.new.memory; tables = w.new.self }) v.new.memory v.new.self v.ensures.frames
    (ap (λ (t : Table). t.ranges) v.ensures.table) (ap (λ (t : Table). t.frames) v.ensures.table) v.ensures.pins v.ensures.memory v.ensures.changes))
