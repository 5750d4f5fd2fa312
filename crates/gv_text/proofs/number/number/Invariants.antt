use Rattle.std.proofs.Common.{◌≡◌, ◌<◌, ◌^◌, drop}
use Rattle.gv_text.specs.Number.{number_after}
use Rattle.gv_text.proofs.number.number.Given as goal

abbrev pub invariant-loop-byte : goal.invariant-loop-byte
invariant-loop-byte l = record {
  rest : number_after l.value (drop l.byte-index l.word) ≡ number_after 0 l.word;
  small : l.value < 16 ^ l.byte-index;
}
