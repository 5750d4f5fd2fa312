use Rattle.std.proofs.Common.{◌≡◌, ◌+◌, ◌-◌}
use Rattle.gv_fetch.specs.Fetch.{owns_pages}
use Rattle.gv_scan.proofs.ring.owns_pages.Given as goal

abbrev pub invariant-loop-n : goal.invariant-loop-n
invariant-loop-n g l = owns_pages (g.R.Reader.space l.reader) (l.first + l.n) (l.count - l.n) ≡ owns_pages (g.R.Reader.space l.reader) l.first l.count
