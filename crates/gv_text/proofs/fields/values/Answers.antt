use Rattle.std.proofs.Common.{◌∙◌, sym, arith, List, ℕ, Some, map, append-nil, ap, length, ◌+◌}
use Rattle.std.proofs.lemmas.List.{at_drop_all, length-map, length_push}
use Rattle.std.specs.Borrow.{Bor}
use Rattle.gv_text.proofs.ValueSteps.{no_slice, lent_at, lent_rest, lent_step, none_left, one_more, with_front, small_result}
use Rattle.gv_text.specs.Grammar.{values_of}
use Rattle.gv_text.proofs.fields.values.Goals as goal

pub returns-in_err-value-clause-value : goal.returns-in_err-value-clause-value
returns-in_err-value-clause-value c =
    let xs = c.args.words.now in
    let i = c.loop-word.word-index in
    let step = lent_step (λ ws. with_front c.loop-word.values (values_of c.args.width ws)) xs i no_slice (omega arith) in
    c.from_residual.ensures
    ∙ none_left c.args.width c.loop-word.values (lent_at xs i) (lent_rest xs i) _ c.in_err-value.ensures.value (sym step ∙ c.loop-word.invariant.rest)

pub loop-word-preserved : goal.loop-word-preserved
loop-word-preserved c =
    let xs = c.args.words.now in
    let i = c.loop-word.word-index in
    let step = lent_step (λ ws. with_front c.loop-word.values (values_of c.args.width ws)) xs i no_slice (omega arith) in
    record {
      rest = rw c.push.ensures (one_more c.args.width c.loop-word.values (lent_at xs i) (lent_rest xs i) _ c.in_ok-value.field-0 c.in_ok-value.ensures.value (sym step ∙ c.loop-word.invariant.rest));
      count = ap length c.push.ensures ∙ length_push c.loop-word.values c.in_ok-value.field-0 ∙ ap (λ n. n + 1) c.loop-word.invariant.count;
    }

pub returns-clause-small : goal.returns-clause-small
returns-clause-small c =
    let words = map (λ (w : Bor (List ℕ)). w.now) c.args.words.now in
    let none_left = at_drop_all (λ ws. with_front c.loop-word.values (values_of c.args.width ws)) words c.loop-word.word-index (rw length-map (omega arith)) in
    small_result c.args.width words c.loop-word.values (ap (λ vs. Some vs) (sym (append-nil c.loop-word.values)) ∙ sym none_left ∙ c.loop-word.invariant.rest)
