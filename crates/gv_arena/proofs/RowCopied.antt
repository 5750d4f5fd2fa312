-- Rows of bytes. A page whose bytes are those of the page before, with a row of another page's bytes in them, has the words of the row's definition.
use Rattle.std.proofs.Common.{◌≡◌, ℕ, ◌+◌, ◌-◌, ◌≤◌, List, length, take, drop, get_or, sym, ap, ◌∙◌, inl, inr, arith, length-drop, get_or-take, get_or-drop, ext_get_or}
use Rattle.std.proofs.lemmas.Bool.{cases_lt}
use Rattle.std.proofs.lemmas.List.{length-take-le}
use Rattle.gv_arena.specs.Rows.{bytes_of, words_from, overwritten, row_copied, AreWords, IsCopied}
use Rattle.gv_arena.proofs.PageBytes.{length-bytes_of, words_from-bytes_of}
use Rattle.gv_arena.proofs.Overwriting.{below_piece, in_piece, above_piece, length-overwritten}

-- a row, and what comes after it
pub copied_more : (source old mid new : List ℕ) (from to n more : ℕ) → IsCopied source old mid from to n → IsCopied source mid new (from + n) (to + n) more → IsCopied source old new from to (n + more)
copied_more source old mid new from to n more first second = record {
  copied = λ i lt. elim (cases_lt i n) [
    | inl early ↦ second.before (to + i) (omega arith) ∙ first.copied i early
    | inr late ↦ (let there : to + n + (i - n) ≡ to + i = omega arith in
        let here : from + n + (i - n) ≡ from + i = omega arith in
        ap (λ (k : ℕ). get_or new k 0) (sym there) ∙ second.copied (i - n) (omega arith) ∙ ap (λ (k : ℕ). get_or source k 0) here)
  ];
  before = λ i lt. second.before i (omega arith) ∙ first.before i lt;
  after = λ i le. second.after i (omega arith) ∙ first.after i (omega arith);
}

module _ (source old new : List ℕ) (from to count : ℕ) (source_words : length source ≡ 512) (old_words : length old ≡ 512) (new_words : length new ≡ 512) (fit : AreWords new)
    (from_within : from + count ≤ 4096) (to_within : to + count ≤ 4096) (copied : IsCopied (bytes_of source) (bytes_of old) (bytes_of new) from to count) where
  piece : List ℕ
  piece = take count (drop from (bytes_of source))

  piece_long : length (take count (drop from (bytes_of source))) ≡ count
  piece_long = length-take-le count (drop from (bytes_of source)) (omega (arith, length-drop from (bytes_of source), length-bytes_of source, source_words, from_within))

  fits : to + length (take count (drop from (bytes_of source))) ≤ length (bytes_of old)
  fits = omega (arith, piece_long, length-bytes_of old, old_words, to_within)

  byte : (i : ℕ) → get_or (bytes_of new) i 0 ≡ get_or (overwritten (bytes_of old) to (take count (drop from (bytes_of source)))) i 0
  byte i =
      let row = take count (drop from (bytes_of source)) in
      elim (cases_lt i to) [
        | inl below ↦ copied.before i below ∙ sym (below_piece (bytes_of old) to row fits i below)
        | inr le ↦ elim (cases_lt i (to + count)) [
          | inl within ↦ (let m = i - to in
              let there : to + m ≡ i = omega arith in
              sym (ap (λ (k : ℕ). get_or (bytes_of new) k 0) there) ∙ copied.copied m (omega arith)
              ∙ sym (get_or-take count (drop from (bytes_of source)) m 0 (omega arith) ∙ get_or-drop from (bytes_of source) m 0)
              ∙ sym (in_piece (bytes_of old) to row fits m (omega (arith, piece_long))) ∙ ap (λ (k : ℕ). get_or (overwritten (bytes_of old) to row) k 0) there)
          | inr above ↦ copied.after i (omega arith) ∙ sym (above_piece (bytes_of old) to row fits i (omega (arith, piece_long)))
        ]
      ]

  pub row_is : new ≡ row_copied source from old to count
  unfolding row_copied
  row_is =
      let row = take count (drop from (bytes_of source)) in
      sym (words_from-bytes_of new fit)
      ∙ ap words_from (ext_get_or 0 (bytes_of new) (overwritten (bytes_of old) to row)
      (omega (arith, length-bytes_of new, new_words, length-overwritten (bytes_of old) to row fits, length-bytes_of old, old_words)) (λ i inside. byte i))
