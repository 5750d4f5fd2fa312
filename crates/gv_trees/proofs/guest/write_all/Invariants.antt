use Rattle.gv_trees.specs.Served.{IsServed}
use Rattle.gv_trees.proofs.guest.write_all.Given as goal

abbrev pub invariant-loop-at : goal.invariant-loop-at
invariant-loop-at g l = IsServed (g.G.Gpu.state l.gpu) l.guest.memory l.guest.tables
