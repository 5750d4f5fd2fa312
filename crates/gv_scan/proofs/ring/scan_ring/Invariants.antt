use Rattle.std.proofs.Common.{◌≡◌, ◌≤◌, ◌+◌, ◌-◌, length}
use Rattle.gv_fetch.specs.Fetch.{whole_ring}
use Rattle.gv_scan.specs.Scan.{RingSoFar}
use Rattle.gv_scan.proofs.ring.scan_ring.Given as goal

abbrev pub invariant-commands : goal.invariant-commands
invariant-commands g l = record {
  within : l.at ≤ length l.ring;
  own : length l.own.items ≡ l.at;
  room : length l.batches.items + l.left ≤ 262144;
  so_far : RingSoFar (g.R.Reader.space l.reader) l.engine.0 (whole_ring (g.R.Reader.space l.reader) l.engine.0 l.ring 262144) l.ring l.at l.left l.own.items l.batches.items;
}

abbrev pub decreases-commands : goal.decreases-commands
decreases-commands g l = length l.ring - l.at
