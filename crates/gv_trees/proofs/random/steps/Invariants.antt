use Rattle.gv_trees.specs.Served.{IsServed}
use Rattle.gv_trees.proofs.random.steps.Given as goal

abbrev pub invariant-loop : goal.invariant-loop
invariant-loop g l = IsServed (g.G.Gpu.state l.gpu) l.guest.memory l.guest.tables
