use Rattle.gv_vgpu.specs.Owners.{is_here}
use Rattle.gv_vgpu.specs.Reset.{AreReset, are_named_below}
use Rattle.gv_vgpu.proofs.vgpu.Vgpu.reset_named.Given as goal

abbrev pub invariant-loop-engine : goal.invariant-loop-engine
invariant-loop-engine g l = AreReset (are_named_below l.named l.engine) (is_here l.fn.here) (g.G.Gpu.state l.fn.gpu) (g.G.Gpu.state l.gpu) l.fn.self l.self
