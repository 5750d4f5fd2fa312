use Rattle.std.proofs.Common.{◌<◌, ◌≡◌, is_some, length, sym, subst, ap, arith}
use Rattle.gv_shape.specs.Counts.{one_if}
use Rattle.gv_sppgtt.proofs.Steady.{on_both}
use Rattle.gv_guest.specs.Placed.{memory_in}
use Rattle.gv_sppgtt.specs.State.{pages_of, sketch_of}
use Rattle.gv_sppgtt.proofs.Relinked.{rests-skipped}
use Rattle.gv_sppgtt.proofs.Resting.{rests-live}
use Rattle.gv_sppgtt.proofs.BadEntries.{bad-here, frame-words}
use Rattle.gv_sppgtt.proofs.Kept.{keeps-none}
use Rattle.gv_sppgtt.proofs.tables.Tables.last_step.Goals as goal

pub returns-in_default-clause-rests : goal.returns-in_default-clause-rests
returns-in_default-clause-rests g c roots rests =
    let d = g.G.Gpu.state c.args.gpu.now in
    rests-skipped (length c.args.frames.now.pages) (memory_in d c.args.frames.now) roots 1 c.args.frame c.args.index (sketch_of d c.args.self.now) c.in_default.ensures.none rests

pub returns-clause-bad : goal.returns-clause-bad
returns-clause-bad g c is roots rests =
    let d = g.G.Gpu.state c.args.gpu.now in
    let placed = c.args.frames.now in
    let words = frame-words d placed c.args.frame c.requires.holds.stands c.requires.frame in
    let live = rests-live d placed c.args.self.now c.args.pins.now roots 1 c.args.frame c.args.index c.requires.holds rests 1 c.args.frame c.in-Some.page (omega arith) (omega arith) c.in-Some.ensures.some in
    bad-here (memory_in d placed) roots 1 c.args.frame c.args.index (omega arith) (omega arith) live (subst (λ n. c.args.index < n) (sym words) c.requires.within) (c.relink_leaf.ensures.bad is)

pub returns-clause-pokes : goal.returns-clause-pokes
returns-clause-pokes g c =
    let role : one_if (is_some (pages_of c.args.self.now 1 c.args.frame)) ≡ 1 = ap (λ o. one_if (is_some o)) c.in-Some.ensures.some in
    let p = c.relink_leaf.ensures.pokes in
    on_both c.relink_leaf.result (λ pokes other. omega (arith, pokes, role)) p p

pub returns-in_default-clause-keeps : goal.returns-in_default-clause-keeps
returns-in_default-clause-keeps g c = keeps-none c.args.frames.now (g.G.Gpu.state c.args.gpu.now) c.args.self.now c.args.pins.now
