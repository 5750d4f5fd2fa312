-- The first of the lines that are left.
use Rattle.std.proofs.Common.{◌≡◌, ℕ, ◌+◌, ◌<◌, ◌≤◌, List, ◌∷◌, ◌++◌, Option, Some, None, IsSome, length, drop, get_or, slice_get, ap, sym, ◌∙◌, ◌⊎◌, inl, inr}
use Rattle.std.specs.Iterator.{YieldsFirst}
use Rattle.std.proofs.lemmas.List.{drop_more, drop_all}
use Rattle.std.proofs.lemmas.Option.{slice_get_within, slice_get_cases, get_or_from_slice_get}
use Rattle.gv_text.specs.declared.script_line.Line.{Line}

module _ (lines behind : List Line) where
  pub left_at : (i : ℕ) (line : Line) → slice_get lines i ≡ Some line → drop i lines ++ behind ≡ line ∷ (drop (i + 1) lines ++ behind)
  left_at i line there =
      let inside = slice_get_within lines i line there in
      ap (λ l. l ++ behind) (drop_more lines i line inside ∙ ap (λ x. x ∷ drop (i + 1) lines) (get_or_from_slice_get lines i line line there))

  pub left_past : (i : ℕ) → slice_get lines i ≡ None → drop i lines ++ behind ≡ behind
  left_past i none = ap (λ l. l ++ behind) (drop_all i lines (past (slice_get_cases lines i).1))
    where
      past : ((x : Line) × (i < length lines) × (slice_get lines i ≡ Some x) × (get_or lines i x ≡ x)) ⊎ ((length lines ≤ i) × (slice_get lines i ≡ None)) → length lines ≤ i
      past (inl here) = let different = sym none ∙ here.2 in cc
      past (inr behind) = behind.0

  pub first_left : (r : Option Line) (before : List Line) → r ≡ slice_get lines 0 → IsSome r → before ≡ lines ++ behind → YieldsFirst (λ (s : List Line). s) before r (drop 1 lines ++ behind)
  first_left None before there some is = cc
  first_left (Some line) before there some is = is ∙ left_at 0 line (sym there)
