use Rattle.std.proofs.Common.{◌≤◌, ◌-◌, length}
use Rattle.gv_scan.specs.Listed.{ListsSecond, SecondSoFar}
use Rattle.gv_scan.proofs.lay.end_of.Given as goal

abbrev pub invariant-batch : goal.invariant-batch
invariant-batch l = record {
  on : l.initial.at ≤ l.at;
  within : l.at ≤ length l.words;
  so_far : (b : ListsSecond l.words l.initial.at) → SecondSoFar l.words l.initial.at l.at b;
}

abbrev pub decreases-batch : goal.decreases-batch
decreases-batch l = length l.words - l.at
