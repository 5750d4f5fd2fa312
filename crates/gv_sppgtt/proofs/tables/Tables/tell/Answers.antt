use Rattle.std.proofs.Common.{◌∙◌}
use Rattle.gv_sppgtt.proofs.Steady.{known-as}
use Rattle.gv_sppgtt.proofs.Changes.{changes_trans}
use Rattle.gv_sppgtt.proofs.tables.Tables.tell.Goals as goal

pub loop-block-preserved : goal.loop-block-preserved
loop-block-preserved g c = record {
  holds = c.in_ok-tell_block.ensures.holds;
  changes = changes_trans c.args.frames.now (g.G.Gpu.state c.args.gpu.now) (g.G.Gpu.state c.loop-block.gpu) (g.G.Gpu.state c.tell_block.new.gpu) c.args.self.now c.loop-block.self c.tell_block.new.self c.args.pins.now c.args.pins.now c.args.pins.now c.loop-block.invariant.changes c.in_ok-tell_block.ensures.changes;
  telling = c.in_ok-tell_block.ensures.telling (g.G.Gpu.state c.args.gpu.now) c.args.self.now c.requires.others c.loop-block.invariant.telling;
  idle = λ known.
      let was = c.loop-block.invariant.idle known in
      let now = c.in_ok-tell_block.ensures.idle (known-as c.args.self.now c.loop-block.self was.1 known) in
      (now.0 ∙ was.0, now.1 ∙ was.1);
}

pub returns-in_err-tell_block-clause-changes : goal.returns-in_err-tell_block-clause-changes
returns-in_err-tell_block-clause-changes g c = changes_trans c.args.frames.now (g.G.Gpu.state c.args.gpu.now) (g.G.Gpu.state c.loop-block.gpu) (g.G.Gpu.state c.tell_block.new.gpu) c.args.self.now c.loop-block.self c.tell_block.new.self c.args.pins.now c.args.pins.now c.args.pins.now c.loop-block.invariant.changes c.in_err-tell_block.ensures.changes

pub returns-in_err-tell_block-clause-idle : goal.returns-in_err-tell_block-clause-idle
returns-in_err-tell_block-clause-idle g c known =
    let was = c.loop-block.invariant.idle known in
    let now = c.in_err-tell_block.ensures.idle (known-as c.args.self.now c.loop-block.self was.1 known) in
    now.0 ∙ was.0

pub returns-clause-idle : goal.returns-clause-idle
returns-clause-idle g c known = (c.loop-block.invariant.idle known).0
