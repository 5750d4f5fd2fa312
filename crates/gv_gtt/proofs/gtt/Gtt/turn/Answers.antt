use Rattle.std.proofs.Common.{ap, sym, subst, true, false}
use Rattle.gv_sggtt.specs.Table.{Table, IsTable}
use Rattle.gv_gtt.proofs.Steps.{stands-pins, serving-table, table-after-guard, table-step}
use Rattle.gv_gtt.proofs.gtt.Gtt.turn.Goals as goal

pub guard-requires-clause-pinned : goal.guard-requires-clause-pinned
guard-requires-clause-pinned g c = stands-pins (g.G.Gpu.state c.args.gpu.now) c.args.self.now c.requires.serving.stands

pub unguard-requires-clause-pinned : goal.unguard-requires-clause-pinned
unguard-requires-clause-pinned g c = stands-pins (g.G.Gpu.state c.args.gpu.now) c.args.self.now c.requires.serving.stands

pub returns-then-guarded-clause-serving : goal.returns-then-guarded-clause-serving
returns-then-guarded-clause-serving g c =
    let self = c.args.self.now in
    let w = c.guard in
    serving-table (g.G.Gpu.state c.args.gpu.now) (g.G.Gpu.state w.new.gpu) self w.new.memory w.new.self c.requires.serving w.ensures.frames
    (subst IsTable (sym w.ensures.table) (table-after-guard self.table c.args.frame true c.requires.serving.stands.table))
    (ap (λ (t : Table). t.ranges) w.ensures.table) (ap (λ (t : Table). t.frames) w.ensures.table) w.ensures.mirrors w.ensures.pins w.ensures.changes

pub returns-else-guarded-clause-serving : goal.returns-else-guarded-clause-serving
returns-else-guarded-clause-serving g c =
    let self = c.args.self.now in
    let w = c.unguard in
    serving-table (g.G.Gpu.state c.args.gpu.now) (g.G.Gpu.state w.new.gpu) self w.new.memory w.new.self c.requires.serving w.ensures.frames
    (subst IsTable (sym w.ensures.table) (table-after-guard self.table c.args.frame false c.requires.serving.stands.table))
    (ap (λ (t : Table). t.ranges) w.ensures.table) (ap (λ (t : Table). t.frames) w.ensures.table) w.ensures.mirrors w.ensures.pins w.ensures.changes

pub returns-then-guarded-clause-changes : goal.returns-then-guarded-clause-changes
returns-then-guarded-clause-changes g c =
    let self = c.args.self.now in
    let w = c.guard in
    table-step (g.G.Gpu.state c.args.gpu.now) (g.G.Gpu.state w.new.gpu) self w.new.memory w.new.self w.ensures.frames
    (ap (λ (t : Table). t.ranges) w.ensures.table) (ap (λ (t : Table). t.frames) w.ensures.table) w.ensures.pins w.ensures.memory w.ensures.changes

pub returns-else-guarded-clause-changes : goal.returns-else-guarded-clause-changes
returns-else-guarded-clause-changes g c =
    let self = c.args.self.now in
    let w = c.unguard in
    table-step (g.G.Gpu.state c.args.gpu.now) (g.G.Gpu.state w.new.gpu) self w.new.memory w.new.self w.ensures.frames
    (ap (λ (t : Table). t.ranges) w.ensures.table) (ap (λ (t : Table). t.frames) w.ensures.table) w.ensures.pins w.ensures.memory w.ensures.changes
