use Rattle.std.proofs.Common.{◌≡◌}
use Rattle.gv_switch.proofs.Registers.{with_first}
use Rattle.gv_switch.proofs.exchange.set_registers.Given as goal

-- the first registers are these
abbrev pub invariant-loop-n : goal.invariant-loop-n
invariant-loop-n g l = g.G.Gpu.state l.gpu ≡ with_first (g.G.Gpu.state l.fn.gpu) l.engine.0 l.kept l.n
