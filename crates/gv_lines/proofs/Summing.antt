-- The counts of a summary, where 64 bits hold them.
use Rattle.std.proofs.Common.{◌≡◌, ℕ, ◌+◌, ◌^◌, ◌<◌, ◌≤◌, true, false, Bool, cond, List, [], ◌∷◌, length, ◌∙◌, arith}
use Rattle.std.specs.Prelude.{count_by}
use Rattle.std.proofs.lemmas.List.Sums.{sum_by-cons}
use Rattle.gv_outside.specs.Causes.{one_more}
use Rattle.gv_text.specs.Script.{is_line_feed}
use Rattle.gv_lines.specs.Summary.{after_byte, totals_after, no_totals}
use Rattle.gv_lines.specs.declared.totals.Totals.{Totals}

bytes_counted : (t : Totals) (bytes : List ℕ) → t.bytes + length bytes < 2 ^ 64 → (totals_after t bytes).bytes ≡ t.bytes + length bytes
bytes_counted t [] small = omega arith
bytes_counted t (b ∷ bytes) small = bytes_counted (after_byte t b) bytes (omega arith) ∙ omega arith

-- one line more, or none
line_counted : (b : Bool) (n : ℕ) → n + 1 < 2 ^ 64 → cond b (one_more n) n ≡ n + cond b 1 0
line_counted true n small = omega arith
line_counted false n small = omega arith

few_lines : (b : Bool) → cond b 1 0 ≤ 1
few_lines true = omega arith
few_lines false = omega arith

lines_counted : (t : Totals) (bytes : List ℕ) → t.lines + length bytes < 2 ^ 64 → (totals_after t bytes).lines ≡ t.lines + count_by is_line_feed bytes
lines_counted t [] small = omega arith
lines_counted t (b ∷ bytes) small =
    let one = line_counted (is_line_feed b) t.lines (omega arith) in
    lines_counted (after_byte t b) bytes (omega (arith, one, few_lines (is_line_feed b))) ∙ omega (arith, one, sum_by-cons (λ x. cond (is_line_feed x) 1 0) b bytes)

-- a text of fewer than 2^64 bytes is counted exactly
pub exact-totals : (text : List ℕ) → length text < 2 ^ 64 → ((totals_after no_totals text).lines ≡ count_by is_line_feed text) × ((totals_after no_totals text).bytes ≡ length text)
exact-totals text small =
    (lines_counted no_totals text (omega arith) ∙ omega arith, bytes_counted no_totals text (omega arith) ∙ omega arith)
