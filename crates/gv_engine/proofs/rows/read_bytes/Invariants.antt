use Rattle.std.proofs.Common.{◌≡◌, ℕ, ◌+◌, ◌<◌, get_or}
use Rattle.gv_engine.specs.Pages.{byte_in}
use Rattle.gv_engine.proofs.rows.read_bytes.Given as goal

abbrev pub invariant-loop-n : goal.invariant-loop-n
invariant-loop-n l = record {
  bytes : (k : ℕ) → k < l.n → get_or l.row (l.from + k) 0 ≡ byte_in l.words (l.at + k);
  before : (k : ℕ) → k < l.from → get_or l.row k 0 ≡ get_or l.initial.row k 0;
}
