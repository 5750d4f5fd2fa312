use Rattle.std.proofs.Common.{◌≡◌}
use Rattle.gv_engine.specs.Whole.{whole}
use Rattle.gv_engine.proofs.tests.with_pages.Given as goal

abbrev pub invariant-loop-page : goal.invariant-loop-page
invariant-loop-page l = (whole l.gpu).live ≡ l.page
