-- Bytes that are stored in a page's words one by one.
use Rattle.std.proofs.Common.{◌≡◌, ℕ, zero, suc, ◌+◌, ◌*◌, ◌/◌, ◌%◌, ◌^◌, ◌<◌, ◌≤◌, List, [], ◌∷◌, ◌++◌, length, get_or, set, take, drop, refl, sym, ap, subst, ◌∙◌, inl, inr, arith, length-set}
use Rattle.std.proofs.lemmas.Bool.{cases_eq}
use Rattle.std.proofs.lemmas.List.{take-append-drop, take-set, drop-set}
use Rattle.std.proofs.Common.{get_or-set_same, get_or-set_other}
use Rattle.std.specs.Int.{w64, byte_at, to_le_bytes, from_le_bytes}
use Rattle.gv_types.specs.Bits.{with_byte}
use Rattle.gv_arena.specs.Rows.{bytes_of, overwritten, row_copied, IsPage, IsCopied}
use Rattle.gv_arena.proofs.Bytes.{byte_in_list}
use Rattle.gv_arena.proofs.Overwriting.{bytes_below, piece_inside, piece_below, piece_above, words_set}
use Rattle.gv_arena.proofs.PageBytes.{get_or-bytes_of}
use Rattle.gv_arena.proofs.RowCopied.{copied_more, row_is}
use Rattle.gv_engine.specs.Pages.{byte_in, bytes_put}

set-is : (xs : List ℕ) (i v : ℕ) → i < length xs → set xs i v ≡ overwritten xs i (v ∷ [])
set-is xs i v within =
    sym (take-append-drop i (set xs i v)) ∙ ap (λ front. front ++ drop i (set xs i v)) (take-set xs i v) ∙ ap (λ rest. take i xs ++ rest) (drop-set xs i v within)

first_byte : (v : ℕ) → v < 256 → take 1 (to_le_bytes w64 v) ≡ v ∷ []
first_byte v small = let same : v % 256 ≡ v = omega arith in ap (λ (b : ℕ). b ∷ []) same

-- a word with another byte
word_is : (word at v : ℕ) → v < 256 → with_byte word at v ≡ from_le_bytes w64 (overwritten (to_le_bytes w64 word) (at % 8) (take 1 (to_le_bytes w64 v)))
word_is word at v small =
    let within : at % 8 < 8 = omega arith in
    ap (from_le_bytes w64) (set-is (to_le_bytes w64 word) (at % 8) v within ∙ ap (overwritten (to_le_bytes w64 word) (at % 8)) (sym (first_byte v small)))

from_below : (bs : List ℕ) → ((i : ℕ) → get_or bs i 0 < 256) → from_le_bytes w64 bs < 2 ^ 64
from_below bs below =
    let a = below 0 in let b = below 1 in let c = below 2 in let d = below 3 in let e = below 4 in let f = below 5 in let g = below 6 in let h = below 7 in omega arith

set_below : (xs : List ℕ) (i v : ℕ) → ((k : ℕ) → get_or xs k 0 < 256) → i < length xs → v < 256 → (k : ℕ) → get_or (set xs i v) k 0 < 256
set_below xs i v all within small k = elim (cases_eq k i) [
  | inl same ↦ subst (λ (b : ℕ). b < 256) (sym (ap (λ (n : ℕ). get_or (set xs i v) n 0) same ∙ get_or-set_same xs i v 0 within)) small
  | inr apart ↦ subst (λ (b : ℕ). b < 256) (sym (get_or-set_other xs i k v 0 apart)) (all k)
]

with_byte_below : (word at v : ℕ) → v < 256 → with_byte word at v < 2 ^ 64
with_byte_below word at v small =
    let within : at % 8 < 8 = omega arith in
    from_below (set (to_le_bytes w64 word) (at % 8) v) (set_below (to_le_bytes w64 word) (at % 8) v (bytes_below word) within small)

pub byte_in-below : (words : List ℕ) (at : ℕ) → byte_in words at < 256
byte_in-below words at = bytes_below (get_or words (at / 8) 0) (at % 8)

-- a byte of a page's words is one of their bytes
byte_in-is : (words : List ℕ) (at : ℕ) → at / 8 < length words → byte_in words at ≡ get_or (bytes_of words) at 0
byte_in-is words at within =
    let small : at % 8 < 8 = omega arith in
    let place : at / 8 * 8 + at % 8 ≡ at = omega arith in
    byte_in_list (get_or words (at / 8) 0) (at % 8) small ∙ sym (get_or-bytes_of words (at / 8) (at % 8) small within) ∙ ap (λ (k : ℕ). get_or (bytes_of words) k 0) place

-- bytes of a page's words are put over those of another's, or of the same
module _ (source old : List ℕ) (from to : ℕ) (source_page : IsPage source) (old_page : IsPage old) where
  pub record IsPut (n : ℕ) (new : List ℕ) : Type 0 where
    pub page : IsPage new
    pub copied : IsCopied (bytes_of source) (bytes_of old) (bytes_of new) from to n

  one_put : (n : ℕ) (mid : List ℕ) → from + n < 4096 → to + n < 4096 → IsPut n mid
      → IsPut (suc n) (set mid ((to + n) / 8) (with_byte (get_or mid ((to + n) / 8) 0) (to + n) (byte_in source (from + n))))
  one_put n mid from_within to_within before =
      let at = to + n in
      let v = byte_in source (from + n) in
      let small = byte_in-below source (from + n) in
      let word = get_or mid (at / 8) 0 in
      let w = with_byte word at v in
      let long = before.page.long in
      let within : at / 8 < length mid = omega arith in
      let fits : at % 8 + 1 ≤ 8 = omega arith in
      let source_long = source_page.long in
      let source_within : (from + n) / 8 < length source = omega arith in
      let is = word_is word at v small in
      let next : IsCopied (bytes_of source) (bytes_of mid) (bytes_of (set mid (at / 8) w)) (from + n) (to + n) 1 = record {
        copied = λ i lt.
            let none : i ≡ 0 = omega arith in
            let here : from + n + i ≡ from + n = omega arith in
            let low : v % 256 ≡ v = omega arith in
            piece_inside mid at 1 v w within fits is i lt ∙ ap (λ (k : ℕ). byte_at k v) none ∙ low
            ∙ byte_in-is source (from + n) source_within ∙ sym (ap (λ (k : ℕ). get_or (bytes_of source) k 0) here);
        before = λ x lt. piece_below mid at 1 v w within fits is x lt;
        after = λ x le. piece_above mid at 1 v w within fits is x le;
      } in
      let more : n + 1 ≡ suc n = omega arith in
      record {
        page = record { long = length-set mid (at / 8) w ∙ long; fit = words_set mid (at / 8) w within (with_byte_below word at v small) before.page.fit };
        copied = subst (λ (k : ℕ). IsCopied (bytes_of source) (bytes_of old) (bytes_of (set mid (at / 8) w)) from to k) more
            (copied_more (bytes_of source) (bytes_of old) (bytes_of mid) (bytes_of (set mid (at / 8) w)) from to n 1 before.copied next);
      }

  all_put : (n : ℕ) → from + n ≤ 4096 → to + n ≤ 4096 → IsPut n (bytes_put old to (λ k. byte_in source (from + k)) n)
  unfolding bytes_put
  all_put zero from_within to_within = record { page = old_page; copied = record { copied = λ i lt. absurd (omega arith); before = λ i lt. refl; after = λ i le. refl } }
  all_put (suc n) from_within to_within = one_put n _ (omega arith) (omega arith) (all_put n (omega arith) (omega arith))

  -- a row that is copied is its bytes, put one by one
  pub row_copied-is : (n : ℕ) → from + n ≤ 4096 → to + n ≤ 4096 → row_copied source from old to n ≡ bytes_put old to (λ k. byte_in source (from + k)) n
  row_copied-is n from_within to_within =
      let all = all_put n from_within to_within in
      sym (row_is source old (bytes_put old to (λ k. byte_in source (from + k)) n) from to n source_page.long old_page.long all.page.long all.page.fit from_within to_within all.copied)
