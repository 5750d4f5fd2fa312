use Rattle.gv_sppgtt.proofs.Flips.{Flipping}
use Rattle.gv_sppgtt.proofs.tables.Tables.flip.Given as goal

-- the leaves that the walk has given are rewritten
abbrev pub invariant-loop-leaf : goal.invariant-loop-leaf
invariant-loop-leaf g l = Flipping (g.G.Gpu.state l.fn.gpu) (g.G.Gpu.state l.gpu) l.frames l.fn.self l.frame l.guarded l.yielded l.leaf-iterator
