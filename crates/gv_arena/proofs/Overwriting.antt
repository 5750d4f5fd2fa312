-- A list with a piece written over some of its items, one by one.
use Rattle.std.proofs.Common.{◌≡◌, ℕ, ◌+◌, ◌-◌, ◌*◌, ◌/◌, ◌%◌, ◌^◌, ◌<◌, ◌≤◌, List, ◌++◌, length, take, drop, get_or, set, refl, sym, ap, ◌∙◌, subst, inl, inr}
use Rattle.std.proofs.Common.{arith, length-append, length-drop, get_or-take, get_or-drop, get_or-set_same, get_or-set_other}
use Rattle.std.proofs.lemmas.Bool.{cases_lt, cases_eq}
use Rattle.std.proofs.lemmas.List.{get_or_append_left, get_or-append_right, get_or_past, length-take-le}
use Rattle.std.proofs.lemmas.Nat.{le_bytes_8}
use Rattle.std.specs.Int.{w64, byte_at, to_le_bytes, from_le_bytes}
use Rattle.gv_arena.specs.Rows.{bytes_of, overwritten, AreWords, IsCopied}
use Rattle.gv_arena.proofs.Bytes.{byte_in_list, byte_below}
use Rattle.gv_arena.proofs.PageBytes.{get_or-bytes_of, same_bytes, new_bytes, words_copied}

module _ (xs : List ℕ) (at : ℕ) (piece : List ℕ) (fits : at + length piece ≤ length xs) where
  front : length (take at xs) ≡ at
  front = length-take-le at xs (omega arith)

  rest : List ℕ
  rest = drop (at + length piece) xs

  pub below_piece : (i : ℕ) → i < at → get_or (overwritten xs at piece) i 0 ≡ get_or xs i 0
  below_piece i lt = get_or_append_left (take at xs) (piece ++ drop (at + length piece) xs) 0 i (omega (arith, front)) ∙ get_or-take at xs i 0 lt

  past_front : (i : ℕ) → at ≤ i → get_or (overwritten xs at piece) i 0 ≡ get_or (piece ++ drop (at + length piece) xs) (i - at) 0
  past_front i le = get_or-append_right (take at xs) (piece ++ drop (at + length piece) xs) at i 0 front le

  pub in_piece : (i : ℕ) → i < length piece → get_or (overwritten xs at piece) (at + i) 0 ≡ get_or piece i 0
  in_piece i lt =
      let back : at + i - at ≡ i = omega arith in
      past_front (at + i) (omega arith) ∙ ap (λ (k : ℕ). get_or (piece ++ drop (at + length piece) xs) k 0) back ∙ get_or_append_left piece (drop (at + length piece) xs) 0 i lt

  pub above_piece : (i : ℕ) → at + length piece ≤ i → get_or (overwritten xs at piece) i 0 ≡ get_or xs i 0
  above_piece i le =
      let back : at + length piece + (i - at - length piece) ≡ i = omega arith in
      past_front i (omega arith) ∙ get_or-append_right piece (drop (at + length piece) xs) (length piece) (i - at) 0 refl (omega arith)
      ∙ get_or-drop (at + length piece) xs (i - at - length piece) 0 ∙ ap (λ (k : ℕ). get_or xs k 0) back

  pub length-overwritten : length (overwritten xs at piece) ≡ length xs
  length-overwritten = omega (arith, front, length-append (take at xs) (piece ++ drop (at + length piece) xs), length-append piece (drop (at + length piece) xs), length-drop (at + length piece) xs)

pub bytes_below : (n i : ℕ) → get_or (to_le_bytes w64 n) i 0 < 256
bytes_below n i = elim (cases_lt i 8) [
  | inl lt ↦ subst (λ (b : ℕ). b < 256) (sym (byte_in_list n i lt)) (byte_below i n)
  | inr le ↦ subst (λ (b : ℕ). b < 256) (sym (get_or_past (to_le_bytes w64 n) i 0 le)) (omega arith)
]

-- a word with some of its bytes replaced by the first bytes of a value
module _ (word at value n : ℕ) (fits : at + n ≤ 8) (w : ℕ) (is : w ≡ from_le_bytes w64 (overwritten (to_le_bytes w64 word) at (take n (to_le_bytes w64 value)))) where
  new : List ℕ
  new = take n (to_le_bytes w64 value)

  long : length (take n (to_le_bytes w64 value)) ≡ n
  long = length-take-le n (to_le_bytes w64 value) (omega arith)

  small : at + length (take n (to_le_bytes w64 value)) ≤ length (to_le_bytes w64 word)
  small = omega (arith, long)

  all_below : (i : ℕ) → get_or (overwritten (to_le_bytes w64 word) at (take n (to_le_bytes w64 value))) i 0 < 256
  all_below i = elim (cases_lt i at) [
    | inl lt ↦ subst (λ (b : ℕ). b < 256) (sym (below_piece (to_le_bytes w64 word) at (take n (to_le_bytes w64 value)) small i lt)) (bytes_below word i)
    | inr le ↦ elim (cases_lt i (at + n)) [
      | inl inside ↦ (let there : at + (i - at) ≡ i = omega arith in
          subst (λ (b : ℕ). b < 256) (sym (get_or-take n (to_le_bytes w64 value) (i - at) 0 (omega arith)) ∙ sym (in_piece (to_le_bytes w64 word) at (take n (to_le_bytes w64 value)) small (i - at) (omega (arith, long)))
          ∙ ap (λ (k : ℕ). get_or (overwritten (to_le_bytes w64 word) at (take n (to_le_bytes w64 value))) k 0) there) (bytes_below value (i - at)))
      | inr past ↦ subst (λ (b : ℕ). b < 256) (sym (above_piece (to_le_bytes w64 word) at (take n (to_le_bytes w64 value)) small i (omega (arith, long)))) (bytes_below word i)
    ]
  ]

  bytes_are : to_le_bytes w64 w ≡ overwritten (to_le_bytes w64 word) at (take n (to_le_bytes w64 value))
  bytes_are = le_bytes_8 (overwritten (to_le_bytes w64 word) at (take n (to_le_bytes w64 value))) w (length-overwritten (to_le_bytes w64 word) at (take n (to_le_bytes w64 value)) small) all_below is

  byte_reads : (m : ℕ) → m < 8 → byte_at m w ≡ get_or (overwritten (to_le_bytes w64 word) at (take n (to_le_bytes w64 value))) m 0
  byte_reads m lt = sym (byte_in_list w m lt) ∙ ap (λ (bs : List ℕ). get_or bs m 0) bytes_are

  pub new_byte : (m : ℕ) → m < n → byte_at (at + m) w ≡ byte_at m value
  new_byte m lt = byte_reads (at + m) (omega arith) ∙ in_piece (to_le_bytes w64 word) at (take n (to_le_bytes w64 value)) small m (omega (arith, long)) ∙ get_or-take n (to_le_bytes w64 value) m 0 lt ∙ byte_in_list value m (omega arith)

  pub byte_below_same : (m : ℕ) → m < at → byte_at m w ≡ byte_at m word
  byte_below_same m lt = byte_reads m (omega arith) ∙ below_piece (to_le_bytes w64 word) at (take n (to_le_bytes w64 value)) small m lt ∙ byte_in_list word m (omega arith)

  pub byte_above_same : (m : ℕ) → at + n ≤ m → m < 8 → byte_at m w ≡ byte_at m word
  byte_above_same m le lt = byte_reads m lt ∙ above_piece (to_le_bytes w64 word) at (take n (to_le_bytes w64 value)) small m (omega (arith, long)) ∙ byte_in_list word m lt

-- the bytes of a page in which a piece of one word is replaced
module _ (ws : List ℕ) (to n value w : ℕ) (within : to / 8 < length ws) (fits : to % 8 + n ≤ 8)
    (is : w ≡ from_le_bytes w64 (overwritten (to_le_bytes w64 (get_or ws (to / 8) 0)) (to % 8) (take n (to_le_bytes w64 value)))) where
  word_of_page : ℕ
  word_of_page = get_or ws (to / 8) 0

  pub piece_inside : (m : ℕ) → m < n → get_or (bytes_of (set ws (to / 8) w)) (to + m) 0 ≡ byte_at m value
  piece_inside m lt =
      let place : to / 8 * 8 + (to % 8 + m) ≡ to + m = omega arith in
      sym (ap (λ (k : ℕ). get_or (bytes_of (set ws (to / 8) w)) k 0) place) ∙ new_bytes ws (to / 8) w within (to % 8 + m) (omega arith)
      ∙ new_byte (get_or ws (to / 8) 0) (to % 8) value n fits w is m lt

  same_word : (x : ℕ) → x / 8 ≡ to / 8 → byte_at (x % 8) w ≡ byte_at (x % 8) (get_or ws (to / 8) 0) → get_or (bytes_of (set ws (to / 8) w)) x 0 ≡ get_or (bytes_of ws) x 0
  same_word x same e =
      let place : to / 8 * 8 + x % 8 ≡ x = omega arith in
      sym (ap (λ (k : ℕ). get_or (bytes_of (set ws (to / 8) w)) k 0) place) ∙ new_bytes ws (to / 8) w within (x % 8) (omega arith) ∙ e
      ∙ sym (get_or-bytes_of ws (to / 8) (x % 8) (omega arith) within) ∙ ap (λ (k : ℕ). get_or (bytes_of ws) k 0) place

  pub piece_below : (x : ℕ) → x < to → get_or (bytes_of (set ws (to / 8) w)) x 0 ≡ get_or (bytes_of ws) x 0
  piece_below x lt = elim (cases_eq (x / 8) (to / 8)) [
    | inl same ↦ same_word x same (byte_below_same (get_or ws (to / 8) 0) (to % 8) value n fits w is (x % 8) (omega arith))
    | inr apart ↦ same_bytes ws (to / 8) w within x apart
  ]

  pub piece_above : (x : ℕ) → to + n ≤ x → get_or (bytes_of (set ws (to / 8) w)) x 0 ≡ get_or (bytes_of ws) x 0
  piece_above x le = elim (cases_eq (x / 8) (to / 8)) [
    | inl same ↦ same_word x same (byte_above_same (get_or ws (to / 8) 0) (to % 8) value n fits w is (x % 8) (omega arith) (omega arith))
    | inr apart ↦ same_bytes ws (to / 8) w within x apart
  ]

-- whole words of a page, written over as many words of another
module _ (source old : List ℕ) (from to n : ℕ) (inside : from + n ≤ length source) (room : to + n ≤ length old) where
  piece_long : length (take n (drop from source)) ≡ n
  piece_long = length-take-le n (drop from source) (omega (arith, length-drop from source))

  pub span_copied : IsCopied (bytes_of source) (bytes_of old) (bytes_of (overwritten old to (take n (drop from source)))) (from * 8) (to * 8) (n * 8)
  span_copied =
      let piece = take n (drop from source) in
      let fits : to + length piece ≤ length old = omega (arith, piece_long, room) in
      words_copied source old (overwritten old to piece) from to n inside room (length-overwritten old to piece fits)
      (λ k lt. in_piece old to piece fits k (omega (arith, piece_long)) ∙ get_or-take n (drop from source) k 0 lt ∙ get_or-drop from source k 0)
      (λ k out. elim out [ inl lt ↦ below_piece old to piece fits k lt | inr le ↦ above_piece old to piece fits k (omega (arith, piece_long)) ])

  pub span_words : AreWords source → AreWords old → AreWords (overwritten old to (take n (drop from source)))
  span_words first second i =
      let piece = take n (drop from source) in
      let fits : to + length piece ≤ length old = omega (arith, piece_long, room) in
      elim (cases_lt i to) [
        | inl below ↦ subst (λ (b : ℕ). b < 2 ^ 64) (sym (below_piece old to piece fits i below)) (second i)
        | inr le ↦ elim (cases_lt i (to + n)) [
          | inl within ↦ (let there : to + (i - to) ≡ i = omega arith in
              subst (λ (b : ℕ). b < 2 ^ 64) (sym (get_or-take n (drop from source) (i - to) 0 (omega arith) ∙ get_or-drop from source (i - to) 0)
              ∙ sym (in_piece old to piece fits (i - to) (omega (arith, piece_long))) ∙ ap (λ (k : ℕ). get_or (overwritten old to piece) k 0) there) (first (from + (i - to))))
          | inr above ↦ subst (λ (b : ℕ). b < 2 ^ 64) (sym (above_piece old to piece fits i (omega (arith, piece_long)))) (second i)
        ]
      ]

pub words_set : (ws : List ℕ) (j w : ℕ) → j < length ws → w < 2 ^ 64 → AreWords ws → AreWords (set ws j w)
words_set ws j w within small words i = elim (cases_eq i j) [
  | inl same ↦ subst (λ (b : ℕ). b < 2 ^ 64) (sym (ap (λ (k : ℕ). get_or (set ws j w) k 0) same ∙ get_or-set_same ws j w 0 within)) small
  | inr apart ↦ subst (λ (b : ℕ). b < 2 ^ 64) (sym (get_or-set_other ws j i w 0 apart)) (words i)
]
