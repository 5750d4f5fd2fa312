use Rattle.std.proofs.Common.{◌≡◌, is_some, length, refl, ap, arith}
use Rattle.gv_shape.specs.Counts.{one_if}
use Rattle.gv_sppgtt.proofs.Steady.{on_both, same-page}
use Rattle.gv_guest.specs.Placed.{memory_in}
use Rattle.gv_sppgtt.specs.State.{pages_of, sketch_of}
use Rattle.gv_sppgtt.proofs.Relinked.{rests-skipped}
use Rattle.gv_sppgtt.proofs.Resting.{rests-live, rests-modest}
use Rattle.gv_sppgtt.proofs.Kept.{keeps-none}
use Rattle.gv_sppgtt.proofs.tables.Tables.step.Goals as goal

pub returns-in_default-clause-rests : goal.returns-in_default-clause-rests
returns-in_default-clause-rests g c roots rests =
    let d = g.G.Gpu.state c.args.gpu.now in
    rests-skipped (length c.args.frames.now.pages) (memory_in d c.args.frames.now) roots c.args.level c.args.frame c.args.index (sketch_of d c.args.self.now) c.in_default.ensures.none rests

pub relink-requires-clause-modest : goal.relink-requires-clause-modest
relink-requires-clause-modest g c h lower below =
    let d = g.G.Gpu.state c.args.gpu.now in
    rests-modest d c.args.frames.now c.args.self.now c.args.pins.now c.requires.rests.0 c.args.level c.args.frame c.args.index c.requires.holds c.requires.rests.1 lower

pub returns-clause-bad : goal.returns-clause-bad
returns-clause-bad g c is roots rests =
    let d = g.G.Gpu.state c.args.gpu.now in
    c.relink.ensures.bad is roots (rests-live d c.args.frames.now c.args.self.now c.args.pins.now roots c.args.level c.args.frame c.args.index c.requires.holds rests c.args.level c.args.frame c.in-Some.page c.requires.most (omega arith) c.in-Some.ensures.some)

pub returns-clause-pokes : goal.returns-clause-pokes
returns-clause-pokes g c =
    let t = c.args.self.now in
    let u = c.relink.new.self in
    let r = c.relink.ensures in
    on_both c.relink.result
    (λ pokes stay same.
    let made = pokes (λ k f is. same-page (pages_of t k f) (pages_of u k f) (same k f is) (stay k f)) in
    let role : one_if (is_some (pages_of t c.args.level c.args.frame)) ≡ 1 = ap (λ o. one_if (is_some o)) c.in-Some.ensures.some in
    let one = made.0 in
    (omega arith, made.1))
    r.pokes r.stay

pub returns-in_default-clause-pokes : goal.returns-in_default-clause-pokes
returns-in_default-clause-pokes g c same = (omega arith, λ k f. refl)

pub returns-in_default-clause-keeps : goal.returns-in_default-clause-keeps
returns-in_default-clause-keeps g c = keeps-none c.args.frames.now (g.G.Gpu.state c.args.gpu.now) c.args.self.now c.args.pins.now
