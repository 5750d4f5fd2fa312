use Rattle.gv_engine.specs.Whole.{whole}
use Rattle.gv_trees.specs.Served.{IsServed}
use Rattle.gv_trees.proofs.costs.a_changed_word_pokes_two_words.Given as goal

abbrev pub invariant-loop-at : goal.invariant-loop-at
invariant-loop-at g l = IsServed (whole l.gpu) l.guest.memory l.guest.tables
