use Rattle.std.proofs.Common.{◌≡◌, length}
use Rattle.gv_mediator.proofs.Works.{AreWorks}
use Rattle.gv_mediator.proofs.switch.works_on.Given as goal

-- these are the works of the guests so far
abbrev pub invariant-loop-number : goal.invariant-loop-number
invariant-loop-number l = record {
  eight : length l.works ≡ 8;
  each : AreWorks l.works l.guests l.engine.0 l.number;
}
