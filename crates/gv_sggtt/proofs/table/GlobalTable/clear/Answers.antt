use Rattle.std.proofs.Common.{ap, ◌∙◌}
use Rattle.gv_entry.specs.Global.{pages_of}
use Rattle.gv_sggtt.specs.Table.{Table}
use Rattle.gv_sggtt.proofs.OwnPins.{zero-pins}
use Rattle.gv_sggtt.proofs.table.GlobalTable.clear.Goals as goal

pub returns-clause-unpinned : goal.returns-clause-unpinned
returns-clause-unpinned g c =
    let inside = c.self.inside in
    let table : Table = record { ranges = inside.ranges; frames = inside.entries.frames; entries = inside.entries.values; guarded = c.fill.new.self.items } in
    zero-pins table (pages_of c.args.self.now.ranges) (ap (λ (t : Table). t.entries) (c.self.view_is ∙ c.clear_entries.ensures.table))
