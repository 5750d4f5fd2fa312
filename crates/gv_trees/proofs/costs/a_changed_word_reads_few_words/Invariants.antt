use Rattle.gv_devices.specs.Counting.{whole}
use Rattle.gv_trees.specs.Served.{IsServed}
use Rattle.gv_trees.proofs.costs.a_changed_word_reads_few_words.Given as goal

abbrev pub invariant-loop-at : goal.invariant-loop-at
invariant-loop-at g l = IsServed (whole l.gpu) l.guest.memory l.guest.tables
