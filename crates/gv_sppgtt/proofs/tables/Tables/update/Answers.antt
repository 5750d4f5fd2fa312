use Rattle.std.proofs.Common.{ℕ, ◌≡◌, ◌≤◌, is_some, length, sym, ap, ◌∙◌, subst, arith}
use Rattle.gv_types.specs.Memory.{Memory}
use Rattle.gv_shape.specs.Counts.{one_if, rank}
use Rattle.gv_sppgtt.specs.State.{pages_of, sketch_of}
use Rattle.gv_sppgtt.specs.Grown.{Rests}
use Rattle.gv_sppgtt.proofs.Kept.{keeps_trans}
use Rattle.gv_sppgtt.proofs.Steady.{above-rank, on_both}
use Rattle.gv_sppgtt.proofs.tables.Tables.update.Goals as goal

pub returns-clause-roots : goal.returns-clause-roots
returns-clause-roots g c =
    let a = c.in_default.ensures in
    let b = c.in_default-step.ensures in
    let d = c.in_default-step-2.ensures in
    let e = c.last_step.ensures.pages in
    on_both c.last_step.result (λ same other f. same 4 f ∙ d.above 4 f (omega arith) ∙ b.above 4 f (omega arith) ∙ a.above 4 f (omega arith)) e e

pub returns-in-Err-step-2-clause-keeps : goal.returns-in-Err-step-2-clause-keeps
returns-in-Err-step-2-clause-keeps g c =
    let placed = c.args.frames.now in
    let start = g.G.Gpu.state c.args.gpu.now in
    let first = g.G.Gpu.state c.step.new.gpu in
    let second = g.G.Gpu.state c.step-2.new.gpu in
    let third = g.G.Gpu.state c.step-3.new.gpu in
    keeps_trans placed start second third c.args.self.now c.step-2.new.self c.step-3.new.self c.args.pins.now c.step-2.new.pins c.step-3.new.pins
    (keeps_trans placed start first second c.args.self.now c.step.new.self c.step-2.new.self c.args.pins.now c.step.new.pins c.step-2.new.pins c.in_default.ensures.keeps c.in_default-step.ensures.keeps)
    c.in-Err-step-2.ensures.keeps

pub returns-clause-keeps : goal.returns-clause-keeps
returns-clause-keeps g c =
    let placed = c.args.frames.now in
    let start = g.G.Gpu.state c.args.gpu.now in
    let first = g.G.Gpu.state c.step.new.gpu in
    let second = g.G.Gpu.state c.step-2.new.gpu in
    let third = g.G.Gpu.state c.step-3.new.gpu in
    let end = g.G.Gpu.state c.last_step.new.gpu in
    keeps_trans placed start third end c.args.self.now c.step-3.new.self c.last_step.new.self c.args.pins.now c.step-3.new.pins c.last_step.new.pins
    (keeps_trans placed start second third c.args.self.now c.step-2.new.self c.step-3.new.self c.args.pins.now c.step-2.new.pins c.step-3.new.pins
    (keeps_trans placed start first second c.args.self.now c.step.new.self c.step-2.new.self c.args.pins.now c.step.new.pins c.step-2.new.pins c.in_default.ensures.keeps c.in_default-step.ensures.keeps)
    c.in_default-step-2.ensures.keeps) c.last_step.ensures.keeps

-- each step finds the nodes below its level as they are at the end
pub returns-clause-pokes : goal.returns-clause-pokes
returns-clause-pokes g c =
    let t = c.args.self.now in
    let a = c.in_default.ensures in
    let b = c.in_default-step.ensures in
    let d = c.in_default-step-2.ensures in
    on_both c.last_step.result
    (λ last pokes nodes.
    let end = λ (k f : ℕ). ap is_some (sym (last k f)) ∙ nodes k f in
    let third = λ (k f : ℕ) (up : 2 ≤ rank k). ap is_some (sym (d.above k f up)) ∙ end k f in
    let second = λ (k f : ℕ) (up : 3 ≤ rank k). ap is_some (sym (b.above k f up)) ∙ third k f (omega arith) in
    let one = a.pokes (λ k f is. second k f (let r = above-rank k in omega arith)) in
    let two = b.pokes (λ k f is. third k f (let r = above-rank k in omega arith) ∙ ap is_some (sym (one.1 k f))) in
    let three = d.pokes (λ k f is. end k f ∙ ap is_some (sym (two.1 k f ∙ one.1 k f))) in
    let x = one.0 in
    let y = two.0 in
    let z = three.0 in
    let role2 : one_if (is_some (pages_of c.step.new.self 3 c.args.frame)) ≡ one_if (is_some (pages_of t 3 c.args.frame)) = ap (λ o. one_if (is_some o)) (one.1 3 c.args.frame) in
    let role3 : one_if (is_some (pages_of c.step-2.new.self 2 c.args.frame)) ≡ one_if (is_some (pages_of t 2 c.args.frame)) = ap (λ o. one_if (is_some o)) (two.1 2 c.args.frame ∙ one.1 2 c.args.frame) in
    let role4 : one_if (is_some (pages_of c.step-3.new.self 1 c.args.frame)) ≡ one_if (is_some (pages_of t 1 c.args.frame)) = ap (λ o. one_if (is_some o)) (three.1 1 c.args.frame ∙ two.1 1 c.args.frame ∙ one.1 1 c.args.frame) in
    (omega arith, λ k f. last k f ∙ three.1 k f ∙ two.1 k f ∙ one.1 k f))
    c.last_step.ensures.pages c.last_step.ensures.pokes

pub returns-clause-settled : goal.returns-clause-settled
returns-clause-settled g c =
    let placed = c.args.frames.now in
    let n = length placed.pages in
    let frame = c.args.frame in
    let index = c.args.index in
    let first = g.G.Gpu.state c.step.new.gpu in
    let second = g.G.Gpu.state c.step-2.new.gpu in
    let third = g.G.Gpu.state c.step-3.new.gpu in
    let end = g.G.Gpu.state c.last_step.new.gpu in
    let a = c.in_default.ensures in
    let b = c.in_default-step.ensures in
    let d = c.in_default-step-2.ensures in
    let e = c.last_step.ensures in
    on_both c.last_step.result
    (λ last same roots rests.
    let one = subst (λ (m : Memory). Rests n m roots 3 frame index (sketch_of first c.step.new.self)) (sym a.keeps.memory) (a.rests roots rests) in
    let two = subst (λ (m : Memory). Rests n m roots 2 frame index (sketch_of second c.step-2.new.self)) (sym b.keeps.memory) (b.rests roots one) in
    let three = subst (λ (m : Memory). Rests n m roots 1 frame index (sketch_of third c.step-3.new.self)) (sym d.keeps.memory) (d.rests roots two) in
    subst (λ (m : Memory). Rests n m roots 0 frame index (sketch_of end c.last_step.new.self)) (sym e.keeps.memory) (last roots three))
    e.rests e.rests

pub returns-in-Err-clause-keeps : goal.returns-in-Err-clause-keeps
returns-in-Err-clause-keeps g c = c.in-Err.ensures.keeps

pub returns-in-Err-step-clause-keeps : goal.returns-in-Err-step-clause-keeps
returns-in-Err-step-clause-keeps g c =
    let placed = c.args.frames.now in
    let start = g.G.Gpu.state c.args.gpu.now in
    let first = g.G.Gpu.state c.step.new.gpu in
    let second = g.G.Gpu.state c.step-2.new.gpu in
    keeps_trans placed start first second c.args.self.now c.step.new.self c.step-2.new.self c.args.pins.now c.step.new.pins c.step-2.new.pins c.in_default.ensures.keeps c.in-Err-step.ensures.keeps
