use Rattle.std.proofs.Common.{◌≤◌, ◌-◌, length}
use Rattle.gv_scan.specs.Listed.{ListsRing, RingSoFar}
use Rattle.gv_scan.proofs.lay.ring.Given as goal

abbrev pub invariant-ring : goal.invariant-ring
invariant-ring l = record {
  within : l.at ≤ length l.words;
  room : length l.batches.items ≤ l.at;
  so_far : (r : ListsRing l.words) → RingSoFar l.words l.at l.own.items l.batches.items r;
}

abbrev pub decreases-ring : goal.decreases-ring
decreases-ring l = length l.words - l.at
