use Rattle.gv_gtt.proofs.RootCalls.{new-none, new-translates, new-device}
use Rattle.gv_gtt.proofs.gtt.Gtt.new.Goals as goal

pub returns-clause-device : goal.returns-clause-device
returns-clause-device g c =
    let e = g.G.Gpu.state c.new-3.new.gpu in
    let m = c.in_ok-memory.ensures in
    λ p. new-device (g.G.Gpu.state c.args.gpu.now) e c.args.guest.0 c.args.frames c.args.ranges c.in_ok-memory.memory c.in_ok-table.table c.in_ok-tables.tables c.requires.parts c.requires.some c.requires.few c.requires.room c.requires.absent
    m.outside m.live c.in_ok-table.ensures c.in_ok-tables.ensures m.guest m.stands m.frames m.pins p m.memory

pub returns-clause-none : goal.returns-clause-none
returns-clause-none g c =
    let e = g.G.Gpu.state c.new-3.new.gpu in
    let m = c.in_ok-memory.ensures in
    new-none (g.G.Gpu.state c.args.gpu.now) e c.args.guest.0 c.args.frames c.args.ranges c.in_ok-memory.memory c.in_ok-table.table c.in_ok-tables.tables c.requires.parts c.requires.some c.requires.few c.requires.room c.requires.absent
    m.outside m.live c.in_ok-table.ensures c.in_ok-tables.ensures m.guest m.stands m.frames m.pins

pub returns-clause-translates : goal.returns-clause-translates
returns-clause-translates g c =
    let e = g.G.Gpu.state c.new-3.new.gpu in
    let m = c.in_ok-memory.ensures in
    new-translates (g.G.Gpu.state c.args.gpu.now) e c.args.guest.0 c.args.frames c.args.ranges c.in_ok-memory.memory c.in_ok-table.table c.in_ok-tables.tables c.requires.parts c.requires.some c.requires.few c.requires.room c.requires.absent
    m.outside m.live c.in_ok-table.ensures c.in_ok-tables.ensures m.guest m.stands m.frames m.pins
