use Rattle.std.proofs.Common.{◌≡◌, ◌<◌, ◌≤◌, ◌^◌, length}
use Rattle.gv_text.specs.Report.{hex}
use Rattle.gv_text.proofs.Hex.{all_digits}
use Rattle.gv_text.proofs.printed.Printed.digits.Given as goal

abbrev pub invariant-loop-rest : goal.invariant-loop-rest
invariant-loop-rest l = record {
  all : all_digits l.digits l.start l.rest ≡ hex l.number;
  some : 0 < l.start;
  inside : l.start ≤ 16;
  long : length l.digits ≡ 16;
  small : l.rest < 16 ^ l.start;
}

abbrev pub decreases-loop-rest : goal.decreases-loop-rest
decreases-loop-rest l = l.start
