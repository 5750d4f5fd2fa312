use Rattle.std.proofs.Common.{◌≡◌, take, length}
use Rattle.gv_fetch.specs.Fetch.{dwords}
use Rattle.gv_scan.proofs.command.read_dwords.Given as goal

abbrev pub invariant-loop-n : goal.invariant-loop-n
invariant-loop-n g l = record {
  long : length l.words ≡ 65;
  words : take l.n l.words ≡ dwords (g.R.Reader.space l.reader).word l.at l.n;
}
