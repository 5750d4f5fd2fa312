use Rattle.std.proofs.Common.{◌≡◌, ℕ, ◌<◌, length, get_or}
use Rattle.gv_switch.proofs.exchange.registers.Given as goal

-- the registers so far
abbrev pub invariant-loop-n : goal.invariant-loop-n
invariant-loop-n g l = (length l.kept ≡ 16) × ((r : ℕ) → r < l.n → get_or l.kept r 0 ≡ (g.G.Gpu.state l.fn.gpu).general l.fn.engine.0 r)
