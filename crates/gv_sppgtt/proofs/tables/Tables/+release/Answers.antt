use Rattle.std.proofs.Common.{◌≡◌, length, ap, ◌∙◌, subst, refl, arith}
use Rattle.gv_shape.specs.Counts.{one_if}
use Rattle.gv_shape.proofs.Totals.{total-same}
use Rattle.gv_sppgtt.specs.State.{pages_of, parents_of, sketch_of}
use Rattle.gv_sppgtt.specs.Grown.{Emptying}
use Rattle.gv_sppgtt.proofs.Kept.{keeps-none, keeps_trans}
use Rattle.gv_sppgtt.proofs.Less.{keeps-less, holds-less, readings-less}
use Rattle.gv_sppgtt.proofs.Dropping.{dropped-less, dropped-last, emptying-emptied, emptied-table}
use Rattle.gv_sppgtt.proofs.tables.Tables.+release.Goals as goal

pub release-returns-in_default-clause-dropped : goal.release-returns-in_default-clause-dropped
release-returns-in_default-clause-dropped g t c =
    let d = g.G.Gpu.state c.args.gpu.now in
    let s = c.in_default.ensures in
    let r = c.requires in
    dropped-less (length c.args.frames.now.pages) c.args.level c.args.frame (sketch_of d c.args.self.now) (sketch_of d c.unhold.new.self) s.pages
    (readings-less d c.args.frames.now c.args.self.now c.unhold.new.self c.args.pins.now c.args.level c.args.frame r.holds r.held s.pages s.here s.others s.nodes s.frames s.owners s.chains s.told s.guest)
    s.here s.others s.last

pub release-returns-in_default-clause-holds : goal.release-returns-in_default-clause-holds
release-returns-in_default-clause-holds g t c =
    let d = g.G.Gpu.state c.args.gpu.now in
    let s = c.in_default.ensures in
    let r = c.requires in
    holds-less d c.args.frames.now c.args.self.now c.unhold.new.self c.args.pins.now c.args.level c.args.frame r.holds r.held s.pages s.here s.others s.nodes s.frames s.owners s.chains s.told s.guest

pub release-loop-index-init : goal.release-loop-index-init
release-loop-index-init g t c =
    let d = g.G.Gpu.state c.args.gpu.now in
    let s = c.in-Some.ensures in
    let r = c.requires in
    record {
      holds = holds-less d c.args.frames.now c.args.self.now c.unhold.new.self c.args.pins.now c.args.level c.args.frame r.holds r.held s.pages s.here s.others s.nodes s.frames s.owners s.chains s.told s.guest;
      keeps = keeps-none c.args.frames.now d c.unhold.new.self c.args.pins.now;
      there = s.last.1;
      none = s.last.0;
      emptying = record {
        within = λ k f p is. is;
        above = λ k f up. refl;
        above_parents = λ k f up. refl;
        same = λ k f p i is low past. refl;
        empty = λ i below low. absurd (omega arith);
        alive = λ k f p is was. was;
        balanced = λ k f some. omega arith;
      };
    }

pub release-loop-index-preserved : goal.release-loop-index-preserved
release-loop-index-preserved g t c =
    let begun = g.G.Gpu.state c.args.gpu.now in
    let e = g.G.Gpu.state c.loop-index.gpu in
    let f = g.G.Gpu.state c.empty_word.new.gpu in
    let was = c.loop-index.invariant in
    let w = c.empty_word.ensures in
    let there = w.emptied.above c.args.level c.args.frame (omega arith) ∙ was.there in
    record {
      holds = w.holds;
      keeps = keeps_trans c.args.frames.now begun e f c.unhold.new.self c.loop-index.self c.empty_word.new.self c.args.pins.now c.loop-index.pins c.empty_word.new.pins was.keeps w.keeps;
      there = there;
      none = w.emptied.above_parents c.args.level c.args.frame (omega arith) ∙ was.none;
      emptying = emptying-emptied (length c.args.frames.now.pages) c.args.level c.args.frame c.loop-index.index (sketch_of begun c.unhold.new.self) (sketch_of e c.loop-index.self) (sketch_of f c.empty_word.new.self) c.loop-index-test.true c.in-Some.page there was.emptying w.emptied;
    }

pub release-returns-clause-dropped : goal.release-returns-clause-dropped
release-returns-clause-dropped g t c =
    let d = g.G.Gpu.state c.args.gpu.now in
    let e = g.G.Gpu.state c.loop-index.gpu in
    let z = g.G.Gpu.state c.remove.new.gpu in
    let n = length c.args.frames.now.pages in
    let s = c.in-Some.ensures in
    let r = c.requires in
    let w = c.remove.ensures in
    let inv = c.loop-index.invariant in
    let all : c.loop-index.index ≡ 512 = omega arith in
    let emptying = subst (λ i. Emptying n c.args.level c.args.frame i (sketch_of d c.unhold.new.self) (sketch_of e c.loop-index.self)) all inv.emptying in
    dropped-last n c.args.level c.args.frame (sketch_of d c.args.self.now) (sketch_of d c.unhold.new.self) s.pages
    (readings-less d c.args.frames.now c.args.self.now c.unhold.new.self c.args.pins.now c.args.level c.args.frame r.holds r.held s.pages s.here s.others s.nodes s.frames s.owners s.chains s.told s.guest)
    s.here s.others (sketch_of e c.loop-index.self) (sketch_of z c.remove.new.self) s.last.0 emptying w.here w.others w.parents w.words
    (λ k test. total-same n _ _ (λ f b. total-same 512 _ _ (λ i l. ap (λ x. one_if (test x)) (w.words k f i l))))

pub empty_word-returns-clause-emptied : goal.empty_word-returns-clause-emptied
empty_word-returns-clause-emptied g t c =
    let d = g.G.Gpu.state c.args.gpu.now in
    let e = g.G.Gpu.state c.empty_entry.new.gpu in
    let z = g.G.Gpu.state c.release.new.gpu in
    let p = c.empty_entry.ensures in
    let r = c.requires in
    emptied-table (length c.args.frames.now.pages) c.args.level c.args.frame c.args.index (sketch_of d c.args.self.now) (sketch_of e c.empty_entry.new.self) r.frame r.within
    (ap pages_of p.same) (ap parents_of p.same) p.enters c.in-Some.child c.in-Some.lower c.args.page (sketch_of z c.release.new.self) r.node c.in-Some.ensures.some c.in-Some.ensures.below c.release.ensures.dropped

pub release-returns-in_default-clause-keeps : goal.release-returns-in_default-clause-keeps
release-returns-in_default-clause-keeps g t c =
    let d = g.G.Gpu.state c.args.gpu.now in
    let s = c.in_default.ensures in
    let r = c.requires in
    keeps-less d c.args.frames.now c.args.self.now c.unhold.new.self c.args.pins.now c.args.level c.args.frame r.holds r.held s.pages s.here s.others s.nodes s.frames s.owners s.chains s.told s.guest s.touched

pub release-returns-clause-keeps : goal.release-returns-clause-keeps
release-returns-clause-keeps g t c =
    let d = g.G.Gpu.state c.args.gpu.now in
    let e = g.G.Gpu.state c.loop-index.gpu in
    let z = g.G.Gpu.state c.remove.new.gpu in
    let s = c.in-Some.ensures in
    let r = c.requires in
    keeps_trans c.args.frames.now d d z c.args.self.now c.unhold.new.self c.remove.new.self c.args.pins.now c.args.pins.now c.loop-index.pins
    (keeps-less d c.args.frames.now c.args.self.now c.unhold.new.self c.args.pins.now c.args.level c.args.frame r.holds r.held s.pages s.here s.others s.nodes s.frames s.owners s.chains s.told s.guest s.touched)
    (keeps_trans c.args.frames.now d e z c.unhold.new.self c.loop-index.self c.remove.new.self c.args.pins.now c.loop-index.pins c.loop-index.pins c.loop-index.invariant.keeps c.remove.ensures.keeps)

pub empty_word-returns-clause-keeps : goal.empty_word-returns-clause-keeps
empty_word-returns-clause-keeps g t c =
    let d = g.G.Gpu.state c.args.gpu.now in
    let e = g.G.Gpu.state c.empty_entry.new.gpu in
    let z = g.G.Gpu.state c.release.new.gpu in
    keeps_trans c.args.frames.now d e z c.args.self.now c.empty_entry.new.self c.release.new.self c.args.pins.now c.args.pins.now c.release.new.pins c.empty_entry.ensures.keeps c.release.ensures.keeps
