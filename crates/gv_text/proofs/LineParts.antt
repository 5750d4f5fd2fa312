-- The lines of a text, by its first line feed.
use Rattle.std.proofs.Common.{◌≡◌, ℕ, ◌<◌, ◌≤◌, Bool, true, false, List, [], ◌∷◌, length, refl, ap, sym, ◌∙◌, arith, if◌then◌else◌}
use Rattle.std.specs.List.{position_or_len, before_first, after_first, slice_split}
use Rattle.std.proofs.lemmas.List.Splits.{slice_split_first, slice_split_none, length-slice_split}
use Rattle.std.proofs.lemmas.List.Sums.{fails_before_first}
use Rattle.gv_text.specs.Script.{is_line_feed, counts_last, lines_of_parts, lines_of}

-- a part that another follows is a line
pub lines_of_parts-more : (counts : List ℕ → Bool) (part : List ℕ) (parts : List (List ℕ)) → 0 < length parts → lines_of_parts counts (part ∷ parts) ≡ part ∷ lines_of_parts counts parts
lines_of_parts-more counts part [] some = absurd (omega arith)
lines_of_parts-more counts part (next ∷ parts) some = refl

pub lines_of-first : (counts : List ℕ → Bool) (bytes : List ℕ) → position_or_len is_line_feed bytes < length bytes → lines_of counts bytes ≡ before_first is_line_feed bytes ∷ lines_of counts (after_first is_line_feed bytes)
lines_of-first counts bytes inside =
    let after = after_first is_line_feed bytes in
    ap (lines_of_parts counts) (slice_split_first is_line_feed bytes 0 inside)
    ∙ lines_of_parts-more counts (before_first is_line_feed bytes) (slice_split is_line_feed after) (omega (arith, length-slice_split is_line_feed after))

-- without a line feed the whole text is the last part
pub lines_of-last : (counts : List ℕ → Bool) (bytes : List ℕ) → length bytes ≤ position_or_len is_line_feed bytes → lines_of counts bytes ≡ (if counts bytes then bytes ∷ [] else [])
lines_of-last counts bytes past =
    ap (lines_of_parts counts) (slice_split_none is_line_feed bytes (λ k d inside. fails_before_first is_line_feed bytes k d (omega arith)))

pub lines_of-nothing : (whole : Bool) → lines_of (counts_last whole) [] ≡ []
lines_of-nothing true = refl
lines_of-nothing false = refl

module _ (whole : Bool) (bytes : List ℕ) (past : length bytes ≤ position_or_len is_line_feed bytes) where
  pub lines_of-last_yes : counts_last whole bytes ≡ true → lines_of (counts_last whole) bytes ≡ bytes ∷ lines_of (counts_last whole) []
  lines_of-last_yes counts =
      lines_of-last (counts_last whole) bytes past
      ∙ ap (λ b. if b then bytes ∷ [] else []) counts
      ∙ ap (λ rest. bytes ∷ rest) (sym (lines_of-nothing whole))

  pub lines_of-last_no : counts_last whole bytes ≡ false → lines_of (counts_last whole) bytes ≡ []
  lines_of-last_no fails = lines_of-last (counts_last whole) bytes past ∙ ap (λ b. if b then bytes ∷ [] else []) fails
