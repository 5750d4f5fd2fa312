use Rattle.gv_trees.specs.Served.{IsServed}
use Rattle.gv_trees.proofs.random.wipe.Given as goal

abbrev pub invariant-loop-frame : goal.invariant-loop-frame
invariant-loop-frame g l = IsServed (g.G.Gpu.state l.gpu) l.guest.memory l.guest.tables

abbrev pub invariant-loop-index : goal.invariant-loop-index
invariant-loop-index g l = IsServed (g.G.Gpu.state l.gpu) l.guest.memory l.guest.tables
