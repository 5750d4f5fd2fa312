use Rattle.std.proofs.Common.{◌≡◌, ℕ, ◌<◌, get_or}
use Rattle.gv_cmd.specs.Effect.{colour_byte}
use Rattle.gv_engine.proofs.rows.colour_bytes.Given as goal

abbrev pub invariant-loop-n : goal.invariant-loop-n
invariant-loop-n l = (k : ℕ) → k < l.n → get_or l.row k 0 ≡ colour_byte l.colour l.depth k
