use Rattle.std.proofs.Common.{◌≡◌, None, Some, length, refl, sym, ap, ◌∙◌, arith}
use Rattle.gv_sppgtt.specs.State.{pages_of, sketch_of}
use Rattle.gv_sppgtt.proofs.Kept.{keeps-none, keeps_trans}
use Rattle.gv_sppgtt.proofs.Dropping.{emptying-emptied}
use Rattle.gv_sppgtt.proofs.Clearing.{top-within, holds-orphaned, keeps-orphaned, readings-orphaned}
use Rattle.gv_sppgtt.proofs.tables.Tables.drop_node.Goals as goal

pub loop-index-init : goal.loop-index-init
loop-index-init g c = record {
  holds = c.requires.holds;
  keeps = keeps-none c.args.frames.now (g.G.Gpu.state c.args.gpu.now) c.args.self.now c.args.pins.now;
  there = c.in-Some.ensures.some;
  emptying = record {
    within = λ k f p is. is;
    above = λ k f up. refl;
    above_parents = λ k f up. refl;
    same = λ k f p i is low past. refl;
    empty = λ i below low. absurd (omega arith);
    alive = λ k f p is was. was;
    balanced = λ k f some. omega arith;
  };
}

pub loop-index-preserved : goal.loop-index-preserved
loop-index-preserved g c =
    let begun = g.G.Gpu.state c.args.gpu.now in
    let e = g.G.Gpu.state c.loop-index.gpu in
    let f = g.G.Gpu.state c.empty_word.new.gpu in
    let was = c.loop-index.invariant in
    let w = c.empty_word.ensures in
    let there = w.emptied.above c.args.level c.args.frame (omega arith) ∙ was.there in
    record {
      holds = w.holds;
      keeps = keeps_trans c.args.frames.now begun e f c.args.self.now c.loop-index.self c.empty_word.new.self c.args.pins.now c.loop-index.pins c.empty_word.new.pins was.keeps w.keeps;
      there = there;
      emptying = emptying-emptied (length c.args.frames.now.pages) c.args.level c.args.frame c.loop-index.index (sketch_of begun c.args.self.now) (sketch_of e c.loop-index.self) (sketch_of f c.empty_word.new.self) c.loop-index-test.true c.in-Some.page there was.emptying w.emptied;
    }

pub remove-requires-clause-holds : goal.remove-requires-clause-holds
remove-requires-clause-holds g c =
    let e = g.G.Gpu.state c.loop-index.gpu in
    let was = c.loop-index.invariant in
    let o = c.orphan.ensures in
    let top = top-within (pages_of c.loop-index.self) (pages_of c.args.self.now) c.args.level was.emptying.within c.requires.top in
    holds-orphaned e c.args.frames.now c.loop-index.self c.orphan.new.self c.loop-index.pins c.args.level c.args.frame was.holds top o.pages o.others o.nodes o.frames o.owners o.chains o.told o.guest

pub remove-requires-clause-node : goal.remove-requires-clause-node
remove-requires-clause-node g c = c.orphan.ensures.pages c.args.level c.args.frame ∙ c.loop-index.invariant.there

pub remove-requires-clause-empty : goal.remove-requires-clause-empty
remove-requires-clause-empty g c i small =
    let e = g.G.Gpu.state c.loop-index.gpu in
    let was = c.loop-index.invariant in
    let o = c.orphan.ensures in
    let top = top-within (pages_of c.loop-index.self) (pages_of c.args.self.now) c.args.level was.emptying.within c.requires.top in
    let all : c.loop-index.index ≡ 512 = omega arith in
    readings-orphaned e c.args.frames.now c.loop-index.self c.orphan.new.self c.loop-index.pins c.args.level c.args.frame was.holds top o.pages o.others o.nodes o.frames o.owners o.chains o.told o.guest c.args.level c.args.frame i
    ∙ was.emptying.empty i (omega arith) small

pub returns-clause-within : goal.returns-clause-within
returns-clause-within g c k f p is =
    let r = c.remove.ensures in
    let apart : k ≡ c.args.level → f ≡ c.args.frame → ⊥ = λ x y.
    let clash : Some p ≡ None = sym is ∙ ap (λ z. pages_of c.remove.new.self z f) x ∙ ap (pages_of c.remove.new.self c.args.level) y ∙ r.here in cc in
    c.loop-index.invariant.emptying.within k f p (sym (c.orphan.ensures.pages k f) ∙ sym (r.others k f apart) ∙ is)

pub returns-clause-keeps : goal.returns-clause-keeps
returns-clause-keeps g c =
    let d = g.G.Gpu.state c.args.gpu.now in
    let e = g.G.Gpu.state c.loop-index.gpu in
    let z = g.G.Gpu.state c.remove.new.gpu in
    let was = c.loop-index.invariant in
    let o = c.orphan.ensures in
    let placed = c.args.frames.now in
    let top = top-within (pages_of c.loop-index.self) (pages_of c.args.self.now) c.args.level was.emptying.within c.requires.top in
    keeps_trans placed d e z c.args.self.now c.loop-index.self c.remove.new.self c.args.pins.now c.loop-index.pins c.loop-index.pins was.keeps
    (keeps_trans placed e e z c.loop-index.self c.orphan.new.self c.remove.new.self c.loop-index.pins c.loop-index.pins c.loop-index.pins
    (keeps-orphaned e placed c.loop-index.self c.orphan.new.self c.loop-index.pins c.args.level c.args.frame was.holds top o.pages o.others o.nodes o.frames o.owners o.chains o.told o.guest o.touched)
    c.remove.ensures.keeps)

pub returns-in_default-clause-keeps : goal.returns-in_default-clause-keeps
returns-in_default-clause-keeps g c = keeps-none c.args.frames.now (g.G.Gpu.state c.args.gpu.now) c.args.self.now c.args.pins.now
