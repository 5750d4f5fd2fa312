use Rattle.std.proofs.Common.{◌≤◌, ◌+◌, ◌-◌, length}
use Rattle.gv_scan.specs.Listed.{ListsBatch, BatchSoFar}
use Rattle.gv_scan.proofs.lay.first_level.Given as goal

abbrev pub invariant-batch : goal.invariant-batch
invariant-batch l = record {
  within : l.at ≤ length l.words;
  room : length l.batches.items + length l.own.items + l.initial.at ≤ length l.initial.batches.items + l.at;
  so_far : (b : ListsBatch l.words l.initial.at) → BatchSoFar l.words l.initial.at l.at l.initial.batches.items l.batches.items l.own.items b;
}

abbrev pub decreases-batch : goal.decreases-batch
decreases-batch l = length l.words - l.at
