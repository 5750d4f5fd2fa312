use Rattle.std.proofs.Common.{◌≡◌, ◌+◌, ◌≤◌, ◌++◌, All, AllPairs, drop}
use Rattle.std.specs.List.{sum_by}
use Rattle.gv_types.specs.declared.ranges.Want.{Want}
use Rattle.gv_entry.specs.Ranges.{InParts}
use Rattle.gv_balloon.specs.Shares.{nothing_given, ranges_from, AreApart, AreAmong}
use Rattle.gv_balloon.proofs.ballooning.assign.Given as goal

-- what was given out, with what is left to give out, is all
abbrev pub invariant-loop-want : goal.invariant-loop-want
invariant-loop-want l = record {
  ranges : l.ranges.items ++ ranges_from l.given (drop l.want-index l.wants) ≡ ranges_from nothing_given l.wants;
  low : l.given.low + sum_by (λ (want : Want). want.low) (drop l.want-index l.wants) ≡ sum_by (λ (want : Want). want.low) l.wants;
  high : l.given.high + sum_by (λ (want : Want). want.high) (drop l.want-index l.wants) ≡ sum_by (λ (want : Want). want.high) l.wants;
  low_part : l.given.low ≤ 65536;
  high_part : l.given.high ≤ 966656;
  among : All (AreAmong l.given) l.ranges.items;
  parts : All InParts l.ranges.items;
  apart : AllPairs AreApart l.ranges.items;
}
