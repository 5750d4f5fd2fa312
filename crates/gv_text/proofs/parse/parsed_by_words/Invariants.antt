use Rattle.std.proofs.Common.{◌≡◌}
use Rattle.gv_text.proofs.parse.parsed_by_words.Given as goal

abbrev pub invariant-loop-word : goal.invariant-loop-word
invariant-loop-word l = record {
  can : (goal.iterator-loop-word).can_next l.word-iterator;
  ends : (goal.iterator-loop-word).is_finite l.word-iterator;
  read : l.words.items ≡ l.yielded;
}
