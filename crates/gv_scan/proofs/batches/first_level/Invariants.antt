use Rattle.std.proofs.Common.{◌≡◌, ◌<◌, ◌≤◌, ◌+◌, ◌%◌, ◌^◌, length}
use Rattle.gv_cmd.specs.declared.stands.Stands.TheVariants.{Privileged}
use Rattle.gv_fetch.specs.Fetch.{whole_batch}
use Rattle.gv_scan.specs.Scan.{FirstSoFar}
use Rattle.gv_scan.proofs.batches.first_level.Given as goal

abbrev pub invariant-commands : goal.invariant-commands
invariant-commands g l = record {
  small : l.at < 2 ^ 48;
  aligned : l.at % 4 ≡ 0;
  room : length l.batches.items + length l.own.items + l.left ≤ length l.initial.batches.items + l.initial.left;
  so_far : FirstSoFar (g.R.Reader.space l.reader) l.engine.0 (whole_batch (g.R.Reader.space l.reader) l.engine.0 Privileged l.initial.at l.initial.left) l.at l.left l.initial.batches.items l.batches.items l.own.items;
}

abbrev pub decreases-commands : goal.decreases-commands
decreases-commands g l = l.left
