use Rattle.gv_engine.specs.Whole.{whole}
use Rattle.gv_trees.specs.Served.{IsServed}
use Rattle.gv_trees.proofs.costs.thousands_of_words_poke_two_words_at_most.Given as goal

abbrev pub invariant-loop : goal.invariant-loop
invariant-loop g l = IsServed (whole l.gpu) l.guest.memory l.guest.tables
