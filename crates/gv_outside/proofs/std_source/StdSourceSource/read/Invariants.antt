use Rattle.std.proofs.Common.{◌≡◌}
use Rattle.std.specs.Io.KnownBytes.{Keeps}
use Rattle.gv_outside.proofs.std_source.StdSourceSource.read.Given as goal

abbrev pub invariant-loop : goal.invariant-loop
invariant-loop g l =
    let known = g.R.Read.remaining in
    record {
      none : l.self.faults ≡ l.fn.self.faults;
      kept : Keeps (known l.fn.self.inner) (known l.self.inner);
    }
