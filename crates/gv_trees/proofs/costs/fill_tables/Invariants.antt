use Rattle.gv_trees.specs.Served.{IsServed}
use Rattle.gv_trees.proofs.costs.fill_tables.Given as goal

abbrev pub invariant-loop-table : goal.invariant-loop-table
invariant-loop-table g l = IsServed (g.G.Gpu.state l.gpu) l.guest.memory l.guest.tables
