use Rattle.gv_sggtt.proofs.Setting.{Setting}
use Rattle.gv_sggtt.proofs.table.set_entries.Given as goal

abbrev pub invariant-loop-leaf : goal.invariant-loop-leaf
invariant-loop-leaf g l =
    Setting l.ranges l.entries.values l.entries.frames l.frame l.entry (g.G.Gpu.state l.fn.gpu) (g.G.Gpu.state l.gpu) l.leaf-iterator l.count
