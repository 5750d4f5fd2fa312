use Rattle.std.proofs.Common.{◌≡◌, ℕ, ◌+◌, ◌<◌, get_or}
use Rattle.gv_engine.proofs.rows.clear_bytes.Given as goal

abbrev pub invariant-loop-n : goal.invariant-loop-n
invariant-loop-n l = record {
  bytes : (k : ℕ) → k < l.n → get_or l.row (l.from + k) 0 ≡ 0;
  before : (k : ℕ) → k < l.from → get_or l.row k 0 ≡ get_or l.initial.row k 0;
}
