use Rattle.std.proofs.Common.{length, sym, subst}
use Rattle.gv_guest.specs.Placed.{Placed}
use Rattle.gv_sggtt.specs.Table.{guards}
use Rattle.gv_sppgtt.specs.Serving.{Tells, guarded_of}
use Rattle.gv_gtt.proofs.Following.{told-changes, tells-guards}
use Rattle.gv_gtt.proofs.Steps.{serving-tables, stands-tables, tables-changes}
use Rattle.gv_gtt.proofs.gtt.Gtt.make_root.Goals as goal

pub returns-in_err-changed-clause-stands : goal.returns-in_err-changed-clause-stands
returns-in_err-changed-clause-stands g c =
    let w = c.create in
    stands-tables (g.G.Gpu.state c.args.gpu.now) (g.G.Gpu.state w.new.gpu) c.args.self.now w.new.memory w.new.self c.requires.translates.serving.stands w.ensures.frames w.ensures.holds w.ensures.changes

pub returns-in_err-changed-clause-changes : goal.returns-in_err-changed-clause-changes
returns-in_err-changed-clause-changes g c =
    let w = c.create in
    tables-changes (g.G.Gpu.state c.args.gpu.now) (g.G.Gpu.state w.new.gpu) c.args.self.now w.new.memory w.new.self w.ensures.frames w.ensures.changes

pub tell-requires-clause-serving : goal.tell-requires-clause-serving
tell-requires-clause-serving g c =
    let w = c.create in
    serving-tables (g.G.Gpu.state c.args.gpu.now) (g.G.Gpu.state w.new.gpu) c.args.self.now w.new.memory w.new.self c.requires.translates.serving.stands w.ensures.frames c.in_ok-changed.ensures.serves w.ensures.changes

pub returns-clause-changes : goal.returns-clause-changes
returns-clause-changes g c =
    let w = c.create in
    told-changes (g.G.Gpu.state c.args.gpu.now) (g.G.Gpu.state w.new.gpu) (g.G.Gpu.state c.tell.new.gpu) c.args.self.now w.new.memory w.new.self c.tell.new.self w.ensures.frames w.ensures.changes c.tell.ensures.changes

pub tell-requires-clause-tells : goal.tell-requires-clause-tells
tell-requires-clause-tells g c =
    let self = c.args.self.now in
    let w = c.create in
    let changed = c.in_ok-changed.changed in
    subst (λ (placed : Placed). Tells (guards self.table.guarded) (guarded_of w.new.self) (length placed.pages) changed.guarded.items changed.unguarded.items) (sym w.ensures.frames)
    (tells-guards self w.new.self (length self.memory.frames.pages) changed.guarded.items changed.unguarded.items c.requires.translates.guarded c.in_ok-changed.ensures.changed)
