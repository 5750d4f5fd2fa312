use Rattle.std.proofs.Common.{◌≡◌, ◌∙◌, sym, ap, arith, rules, List, ℕ, length, map}
use Rattle.std.proofs.lemmas.Bool.{eqb-true}
use Rattle.std.proofs.lemmas.Iterator.{YieldsList}
use Rattle.std.proofs.lemmas.Iterator.Consumers.{YieldsList-turn, YieldsList-end, YieldsList-at}
use Rattle.std.proofs.lemmas.Iterator.Splits.{YieldsList-from_slice_split}
use Rattle.std.specs.Borrow.{Bor}
use Rattle.std.specs.List.{slice_split}
use Rattle.gv_text.specs.Grammar.{is_space, line_of_words}
use Rattle.gv_text.proofs.TooManyWords.{line_of_words-many}
use Rattle.gv_text.proofs.parse.parsed_by_words.Goals as goal
use Rattle.gv_text.proofs.parse.parsed_by_words.Given as given

pub returns-then-is_full-clause-value : goal.returns-then-is_full-clause-value
returns-then-is_full-clause-value c =
    let road : YieldsList (given.iterator-loop-word).next_gives (λ w. w.now) c.split-word-items.result (slice_split is_space c.args.bytes.now) = YieldsList-from_slice_split _ is_space c.args.bytes.now c.split-word-items.ensures.rest c.split-word-items.ensures.done c.split-word-items.ensures.closure (λ x b q k. search rules) in
    let turn = YieldsList-turn (YieldsList-at c.into_iter-word-iterator.ensures.into_iter_gives road) c.loop-word.yielded c.loop-word.word-iterator c.loop-word.yielded_by c.next.result c.next.new.self c.in-Some.word c.in-Some.is c.next.ensures.steps in
    let full : length c.loop-word.words.items ≡ 19 = eqb-true (length c.loop-word.words.items) 19 (sym c.is_full.ensures.value ∙ c.if-is_full.true) in
    sym (line_of_words-many (slice_split is_space c.args.bytes.now) (omega (arith, turn.0, full, ap length c.loop-word.invariant.read)))

pub returns-clause-value : goal.returns-clause-value
returns-clause-value c =
    let road : YieldsList (given.iterator-loop-word).next_gives (λ w. w.now) c.split-word-items.result (slice_split is_space c.args.bytes.now) = YieldsList-from_slice_split _ is_space c.args.bytes.now c.split-word-items.ensures.rest c.split-word-items.ensures.done c.split-word-items.ensures.closure (λ x b q k. search rules) in
    let end = YieldsList-end (YieldsList-at c.into_iter-word-iterator.ensures.into_iter_gives road) c.loop-word.yielded c.loop-word.word-iterator c.loop-word.yielded_by c.next.result c.next.new.self c.in-None.is c.next.ensures.steps in
    c.of_words.ensures.value ∙ ap line_of_words (ap (map (λ (w : Bor (List ℕ)). w.now)) (c.deref.ensures.0 ∙ c.loop-word.invariant.read) ∙ end.0)
