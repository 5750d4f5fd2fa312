use Rattle.std.proofs.Common.{◌≡◌, [], map, replicate}
use Rattle.gv_rmap.specs.declared.tree.Tree.{Empty}
use Rattle.gv_rmap.specs.Tree.{leaves}
use Rattle.gv_rmap.proofs.chains.Chains.new.Given as goal

abbrev pub invariant-loop : goal.invariant-loop
invariant-loop l = record { empty : l.chains.items ≡ replicate l.counter Empty; chains : map leaves l.chains.items ≡ replicate l.counter [] }
