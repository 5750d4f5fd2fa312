use Rattle.std.proofs.Common.{◌≡◌, ◌+◌, ◌*◌, ◌-◌}
use Rattle.gv_fetch.specs.Fetch.{owns_dwords}
use Rattle.gv_scan.proofs.command.owns_dwords.Given as goal

abbrev pub invariant-loop-n : goal.invariant-loop-n
invariant-loop-n g l = owns_dwords (g.R.Reader.space l.reader) (l.at + 4 * l.n) (l.count - l.n) ≡ owns_dwords (g.R.Reader.space l.reader) l.at l.count
