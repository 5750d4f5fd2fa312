use Rattle.gv_gtt.proofs.Turning.{may-turn, turned-more}
use Rattle.gv_gtt.proofs.gtt.Gtt.turn_all.Goals as goal

pub turn-requires-clause-turns : goal.turn-requires-clause-turns
turn-requires-clause-turns g c =
    may-turn (g.G.Gpu.state c.args.gpu.now) (g.G.Gpu.state c.loop-frame.gpu) (g.G.Gpu.state c.loop-frame.gpu) c.args.self.now c.loop-frame.self c.loop-frame.self c.args.frames.now c.loop-frame.frame-index c.args.guarded
    c.loop-frame.invariant c.loop-frame-test.true c.requires.may

pub loop-frame-preserved : goal.loop-frame-preserved
loop-frame-preserved g c =
    turned-more (g.G.Gpu.state c.args.gpu.now) (g.G.Gpu.state c.loop-frame.gpu) (g.G.Gpu.state c.turn.new.gpu) c.args.self.now c.loop-frame.self c.turn.new.self c.args.frames.now c.loop-frame.frame-index c.args.guarded
    c.loop-frame.invariant c.loop-frame-test.true c.requires.may c.turn.ensures.serving c.turn.ensures.table c.turn.ensures.changes
