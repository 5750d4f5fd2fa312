use Rattle.std.proofs.Common.{None, length, refl, ap, ◌∙◌, arith, ⊎_elim}
use Rattle.std.proofs.lemmas.Bool.{cases_eq, cases_lt}
use Rattle.gv_sppgtt.specs.State.{pages_of}
use Rattle.gv_sppgtt.proofs.Kept.{keeps-none, keeps_trans}
use Rattle.gv_sppgtt.proofs.Clearing.{none-kept, none-within, top-within}
use Rattle.gv_sppgtt.proofs.tables.Tables.drop_level.Goals as goal

pub drop_node-requires-clause-top : goal.drop_node-requires-clause-top
drop_node-requires-clause-top g c = top-within (pages_of c.loop-frame.self) (pages_of c.args.self.now) c.args.level c.loop-frame.invariant.within c.requires.top

pub loop-frame-init : goal.loop-frame-init
loop-frame-init g c = record {
  holds = c.requires.holds;
  keeps = keeps-none c.args.frames.now (g.G.Gpu.state c.args.gpu.now) c.args.self.now c.args.pins.now;
  within = λ k f p is. is;
  none = λ f below. absurd (omega arith);
}

pub loop-frame-preserved : goal.loop-frame-preserved
loop-frame-preserved g c =
    let was = c.loop-frame.invariant in
    let w = c.drop_node.ensures in
    record {
      holds = w.holds;
      keeps = keeps_trans c.args.frames.now (g.G.Gpu.state c.args.gpu.now) (g.G.Gpu.state c.loop-frame.gpu) (g.G.Gpu.state c.drop_node.new.gpu) c.args.self.now c.loop-frame.self c.drop_node.new.self c.args.pins.now c.loop-frame.pins c.drop_node.new.pins was.keeps w.keeps;
      within = λ k f p is. was.within k f p (w.within k f p is);
      none = λ f below. ⊎_elim
          (λ same. ap (pages_of c.drop_node.new.self c.args.level) same ∙ w.none)
          (λ other. none-within (pages_of c.drop_node.new.self) (pages_of c.loop-frame.self) w.within c.args.level f (was.none f (omega arith)))
          (cases_eq f c.loop-frame.frame);
    }

pub returns-clause-none : goal.returns-clause-none
returns-clause-none g c f =
    let was = c.loop-frame.invariant in
    ⊎_elim
    (λ low. was.none f (omega arith))
    (λ past. none-kept (pages_of c.loop-frame.self c.args.level f) None (λ p is. absurd (omega (arith, (was.holds.sound.boarded.low c.args.level f p is).0))) refl)
    (cases_lt f (length c.args.frames.now.pages))
