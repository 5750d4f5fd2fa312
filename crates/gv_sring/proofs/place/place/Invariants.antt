use Rattle.std.proofs.Common.{◌≤◌, ◌-◌, length}
use Rattle.gv_sring.proofs.PlacedLemmas.{ArePlacedSoFar}
use Rattle.gv_sring.proofs.place.place.Given as goal

abbrev pub invariant-commands : goal.invariant-commands
invariant-commands l = record {
  within : l.at ≤ length l.words;
  so_far : ArePlacedSoFar l.base l.words l.at l.list.items;
}

abbrev pub decreases-commands : goal.decreases-commands
decreases-commands l = length l.words - l.at
