use Rattle.std.proofs.Common.{◌≡◌, length, map, drop}
use Rattle.gv_text.specs.Grammar.{values_of}
use Rattle.gv_text.proofs.ValueSteps.{with_front}
use Rattle.gv_text.proofs.fields.values.Given as goal

abbrev pub invariant-loop-word : goal.invariant-loop-word
invariant-loop-word l = record {
  rest : with_front l.values (values_of l.width (drop l.word-index (map (λ w. w.now) l.words))) ≡ values_of l.width (map (λ w. w.now) l.words);
  count : length l.values ≡ l.word-index;
}
