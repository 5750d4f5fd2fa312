use Rattle.std.proofs.Common.{◌≡◌, ℕ, ◌<◌, List, Option, Some, None, false, length, get_or, sym, ◌∙◌, arith, ⊎_elim}
use Rattle.std.specs.List.{position_or_len}
use Rattle.std.specs.Option.{unwrap_or}
use Rattle.std.proofs.lemmas.Bool.{cases_Bool}
use Rattle.std.proofs.lemmas.List.Sums.{position_or_len_is}
use Rattle.memchr.specs.Find.{IsFirstByte, Nowhere, Passes}
use Rattle.gv_text.specs.Script.{is_line_feed}
use Rattle.gv_text.proofs.lines.line_end.Goals as goal

fails : (bytes : List ℕ) (end k : ℕ) → Nowhere (Passes is_line_feed bytes) 0 end → k < end → is_line_feed (get_or bytes k 0) ≡ false
fails bytes end k nowhere below = ⊎_elim (λ passes. absurd (nowhere k (omega arith) below passes)) (λ fails. fails) (cases_Bool (is_line_feed (get_or bytes k 0)))

first_byte : (bytes : List ℕ) (place : Option ℕ) → IsFirstByte is_line_feed bytes place → unwrap_or place (length bytes) ≡ position_or_len is_line_feed bytes
first_byte bytes None found = sym (position_or_len_is is_line_feed bytes (length bytes) 0 (omega arith) (λ k below. fails bytes (length bytes) k found below) (λ h. absurd (omega arith)))
first_byte bytes (Some place) found = sym (position_or_len_is is_line_feed bytes place 0 (omega (arith, found.0.high)) (λ k below. fails bytes place k found.0.before below) (λ h. found.1))

pub returns-clause-value : goal.returns-clause-value
returns-clause-value c = c.unwrap_or.ensures ∙ first_byte c.args.bytes.now c.memchr.result c.memchr.ensures
