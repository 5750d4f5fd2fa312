use Rattle.std.proofs.Common.{◌≡◌}
use Rattle.gv_vgpu.proofs.Zeros.{zeroed}
use Rattle.gv_vgpu.proofs.reset.zero_general.Given as goal

abbrev pub invariant-loop-n : goal.invariant-loop-n
invariant-loop-n g l = g.G.Gpu.state l.gpu ≡ zeroed (g.G.Gpu.state l.fn.gpu) l.engine.0 l.n
