-- One more number, which is not live, and which can be given.
use Rattle.std.proofs.Common.{◌≡◌, ◌++◌, ◌∷◌, [], false, length, ap, ◌∙◌, arith}
use Rattle.std.proofs.lemmas.List.{append_assoc, replicate_more, length_push}
use Rattle.gv_arena.proofs.FreeNumbers.{one_added}
use Rattle.gv_arena.proofs.numbers.Numbers.add.Goals as goal

pub loop-step-preserved : goal.loop-step-preserved
loop-step-preserved c =
    let marks = c.loop-step.self-inside.marks in
    let free = c.loop-step.self-inside.free.items in
    let inv = c.loop-step.invariant in
    let number : c.len-number.result ≡ length marks.items = c.len-number.ensures ∙ marks.ok.0 in
    let marks_now = c.push_reserved.ensures.items in
    let free_now : c.push_reserved-in-loop-step.new.self.items ≡ free ++ length marks.items ∷ [] = c.push_reserved-in-loop-step.ensures.items ∙ ap (λ n. free ++ n ∷ []) number in
    let more = ap length free_now ∙ length_push free (length marks.items) in
    record {
      free = rw marks_now (rw free_now (one_added marks.items free inv.free));
      marks = marks_now ∙ ap (λ ms. ms ++ false ∷ []) inv.marks ∙ append_assoc c.reserve.new.self.items _ (false ∷ []) ∙ ap (λ ms. c.reserve.new.self.items ++ ms) (replicate_more c.loop-step._step false);
      more = omega (arith, more, inv.more);
      live = inv.live;
      marks_room = omega (arith, inv.marks_room, c.push_reserved.ensures.capacity);
      free_room = omega (arith, inv.free_room, c.push_reserved-in-loop-step.ensures.capacity);
    }
