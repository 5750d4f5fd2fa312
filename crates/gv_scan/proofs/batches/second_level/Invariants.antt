use Rattle.std.proofs.Common.{◌≡◌, ◌<◌, ◌≤◌, ◌+◌, ◌%◌, ◌^◌, length}
use Rattle.gv_cmd.specs.declared.stands.Stands.TheVariants.{Second}
use Rattle.gv_fetch.specs.Fetch.{whole_batch}
use Rattle.gv_scan.specs.Scan.{SecondSoFar}
use Rattle.gv_scan.proofs.batches.second_level.Given as goal

abbrev pub invariant-loop-command : goal.invariant-loop-command
invariant-loop-command g l = record {
  small : l.at < 2 ^ 48;
  aligned : l.at % 4 ≡ 0;
  room : length l.batches.items + l.left ≤ length l.initial.batches.items + l.initial.left;
  so_far : SecondSoFar (g.R.Reader.space l.reader) l.engine.0 (whole_batch (g.R.Reader.space l.reader) l.engine.0 Second l.initial.at l.initial.left) l.at l.left l.initial.batches.items l.batches.items;
}

abbrev pub decreases-loop-command : goal.decreases-loop-command
decreases-loop-command g l = l.left
