use Rattle.gv_trees.specs.Served.{IsServed}
use Rattle.gv_trees.proofs.trees.come_and_go_often.Given as goal

abbrev pub invariant-loop : goal.invariant-loop
invariant-loop g l = IsServed (g.G.Gpu.state l.gpu) l.guest.memory l.guest.tables
