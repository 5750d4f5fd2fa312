use Rattle.std.proofs.Common.{ap, sym, subst, ◌∙◌}
use Rattle.gv_sggtt.specs.Table.{Table, IsTable, guards}
use Rattle.gv_gtt.proofs.Steps.{stands-pins, serving-table, table-after-write, table-changes, table-step}
use Rattle.gv_gtt.proofs.gtt.Gtt.write_entry.Goals as goal

pub write_entry-requires-clause-pinned : goal.write_entry-requires-clause-pinned
write_entry-requires-clause-pinned g c = stands-pins (g.G.Gpu.state c.args.gpu.now) c.args.self.now c.requires.translates.serving.stands

pub returns-clause-translates : goal.returns-clause-translates
returns-clause-translates g c =
    let self = c.args.self.now in
    let w = c.write_entry in
    record {
      serving = serving-table (g.G.Gpu.state c.args.gpu.now) (g.G.Gpu.state w.new.gpu) self w.new.memory w.new.self c.requires.translates.serving w.ensures.frames
          (subst IsTable (sym w.ensures.table) (table-after-write self.table c.args.page c.args.value c.requires.translates.serving.stands.table))
          (ap (λ (t : Table). t.ranges) w.ensures.table) (ap (λ (t : Table). t.frames) w.ensures.table) w.ensures.mirrors w.ensures.pins w.ensures.changes;
      guarded = λ frame. ap (λ (t : Table). guards t.guarded frame) w.ensures.table ∙ c.requires.translates.guarded frame;
    }

pub returns-clause-changes : goal.returns-clause-changes
returns-clause-changes g c =
    let self = c.args.self.now in
    let w = c.write_entry in
    table-changes (g.G.Gpu.state c.args.gpu.now) (g.G.Gpu.state w.new.gpu) self (record self { memory = w.new.memory; table = w.new.self })
    (table-step (g.G.Gpu.state c.args.gpu.now) (g.G.Gpu.state w.new.gpu) self w.new.memory w.new.self w.ensures.frames
    (ap (λ (t : Table). t.ranges) w.ensures.table) (ap (λ (t : Table). t.frames) w.ensures.table) w.ensures.pins w.ensures.memory w.ensures.changes)

pub returns-clause-table : goal.returns-clause-table
returns-clause-table g c =
    let self = c.args.self.now in
    let w = c.write_entry in
    table-step (g.G.Gpu.state c.args.gpu.now) (g.G.Gpu.state w.new.gpu) self w.new.memory w.new.self w.ensures.frames
    (ap (λ (t : Table). t.ranges) w.ensures.table) (ap (λ (t : Table). t.frames) w.ensures.table) w.ensures.pins w.ensures.memory w.ensures.changes
