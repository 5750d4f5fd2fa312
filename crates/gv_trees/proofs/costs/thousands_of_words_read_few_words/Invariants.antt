use Rattle.gv_devices.specs.Counting.{whole}
use Rattle.gv_trees.specs.Served.{IsServed}
use Rattle.gv_trees.proofs.costs.thousands_of_words_read_few_words.Given as goal

abbrev pub invariant-loop : goal.invariant-loop
invariant-loop g l = IsServed (whole l.gpu) l.guest.memory l.guest.tables
