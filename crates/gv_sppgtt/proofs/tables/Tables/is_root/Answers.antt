use Rattle.std.proofs.Common.{ℕ, ◌≡◌, ◌<◌, false, ◌&&◌, ltb, is_some, sym, ap, ◌∙◌, subst}
use Rattle.std.proofs.lemmas.Bool.{lt-ltb}
use Rattle.std.proofs.lemmas.Bool.Decides.{nat_tests}
use Rattle.std.proofs.Common.{◌≤◌, arith}
use Rattle.gv_sppgtt.specs.State.{pages_of}
use Rattle.gv_sppgtt.proofs.Serving.{is-root}
use Rattle.gv_sppgtt.proofs.tables.Tables.is_root.Goals as goal

pub returns-then-frame-frames : goal.returns-then-frame-frames
returns-then-frame-frames c =
    let t = c.args.self.now in
    let low : c.args.frame < t.nodes.frames = subst (λ n. c.args.frame < n) c.frames.ensures c.if-frame-frames.true in
    c.has_node.ensures ∙ sym (is-root t c.args.frame ∙ ap (λ b. b && is_some (pages_of t 4 c.args.frame)) (lt-ltb c.args.frame t.nodes.frames low))

not_below : (f n : ℕ) → n ≤ f → ltb f n ≡ false
not_below f n high = grind (arith, nat_tests)

pub returns-else-frame-frames : goal.returns-else-frame-frames
returns-else-frame-frames c =
    let t = c.args.self.now in
    let high = subst (λ n. n ≤ c.args.frame) c.frames.ensures c.if-frame-frames.false in
    ap (ltb c.args.frame) c.frames.ensures ∙ not_below c.args.frame t.nodes.frames high ∙ sym (is-root t c.args.frame ∙ ap (λ b. b && is_some (pages_of t 4 c.args.frame)) (not_below c.args.frame t.nodes.frames high))
