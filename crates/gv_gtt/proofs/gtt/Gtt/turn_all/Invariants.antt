use Rattle.std.proofs.Common.{take}
use Rattle.gv_gtt.specs.Turning.{Turned}
use Rattle.gv_gtt.proofs.gtt.Gtt.turn_all.Given as goal

abbrev pub invariant-loop-frame : goal.invariant-loop-frame
invariant-loop-frame g l = Turned (g.G.Gpu.state l.initial.gpu) (g.G.Gpu.state l.gpu) l.initial.self l.self (take l.frame-index l.frames) l.guarded
