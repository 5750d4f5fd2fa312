use Rattle.std.proofs.Common.{length, refl, ◌∙◌, subst, arith}
use Rattle.gv_sppgtt.proofs.Steady.{known-as}
use Rattle.gv_sppgtt.proofs.Changes.{changes-none, changes_trans}
use Rattle.gv_sppgtt.proofs.Telling.{telling-block}
use Rattle.gv_sppgtt.specs.Telling.{Telling}
use Rattle.gv_sppgtt.proofs.tables.Tables.tell_block.Goals as goal

pub loop-frame-init : goal.loop-frame-init
loop-frame-init g c = record {
  holds = c.requires.holds;
  changes = changes-none c.args.frames.now (g.G.Gpu.state c.args.gpu.now) c.args.self.now c.args.pins.now;
  telling = λ d t was. was;
  idle = λ known. (refl, refl);
}

pub returns-then-not-self-block-clause-changes : goal.returns-then-not-self-block-clause-changes
returns-then-not-self-block-clause-changes g c = changes-none c.args.frames.now (g.G.Gpu.state c.args.gpu.now) c.args.self.now c.args.pins.now

pub returns-in_err-tell_frame-clause-changes : goal.returns-in_err-tell_frame-clause-changes
returns-in_err-tell_frame-clause-changes g c = changes_trans c.args.frames.now (g.G.Gpu.state c.args.gpu.now) (g.G.Gpu.state c.loop-frame.gpu) (g.G.Gpu.state c.tell_frame.new.gpu) c.args.self.now c.loop-frame.self c.tell_frame.new.self c.args.pins.now c.args.pins.now c.args.pins.now c.loop-frame.invariant.changes c.in_err-tell_frame.ensures.changes

pub loop-frame-preserved : goal.loop-frame-preserved
loop-frame-preserved g c = record {
  holds = c.in_ok-tell_frame.ensures.holds;
  changes = changes_trans c.args.frames.now (g.G.Gpu.state c.args.gpu.now) (g.G.Gpu.state c.loop-frame.gpu) (g.G.Gpu.state c.tell_frame.new.gpu) c.args.self.now c.loop-frame.self c.tell_frame.new.self c.args.pins.now c.args.pins.now c.args.pins.now c.loop-frame.invariant.changes c.in_ok-tell_frame.ensures.changes;
  telling = λ d t was. c.in_ok-tell_frame.ensures.telling d t (c.loop-frame.invariant.telling d t was);
  idle = λ known.
      let was = c.loop-frame.invariant.idle known in
      let now = c.in_ok-tell_frame.ensures.idle (known-as c.args.self.now c.loop-frame.self was.1 known c.loop-frame.frame) in
      (now.0 ∙ was.0, now.1 ∙ was.1);
}

pub returns-clause-telling : goal.returns-clause-telling
returns-clause-telling g c d t others was =
    let start = g.G.Gpu.state c.args.gpu.now in
    let now = g.G.Gpu.state c.loop-frame.gpu in
    subst (λ x. Telling c.args.frames.now d t x now c.loop-frame.self c.loop-frame.changed.guarded.items c.loop-frame.changed.unguarded.items) (omega arith)
    (c.loop-frame.invariant.telling d t (subst (λ x. Telling c.args.frames.now d t x start c.args.self.now c.args.changed.now.guarded.items c.args.changed.now.unguarded.items) (omega arith) was))

pub returns-then-not-self-block-clause-telling : goal.returns-then-not-self-block-clause-telling
returns-then-not-self-block-clause-telling g c d t others was =
    telling-block c.args.frames.now d t c.args.block (length c.args.frames.now.pages) (g.G.Gpu.state c.args.gpu.now) c.args.self.now c.args.changed.now.guarded.items c.args.changed.now.unguarded.items others
    c.if-not-self-block.true was

pub returns-then-not-self-block-clause-idle : goal.returns-then-not-self-block-clause-idle
returns-then-not-self-block-clause-idle g c known = (refl, refl)

pub returns-in_err-tell_frame-clause-idle : goal.returns-in_err-tell_frame-clause-idle
returns-in_err-tell_frame-clause-idle g c known =
    let was = c.loop-frame.invariant.idle known in
    let now = c.in_err-tell_frame.ensures.idle (known-as c.args.self.now c.loop-frame.self was.1 known c.loop-frame.frame) in
    (now.0 ∙ was.0, now.1 ∙ was.1)

pub returns-clause-idle : goal.returns-clause-idle
returns-clause-idle g c known = c.loop-frame.invariant.idle known
