-- The bytes of a list of words, one by one.
use Rattle.std.proofs.Common.{◌≡◌, ℕ, zero, suc, ◌+◌, ◌-◌, ◌*◌, ◌/◌, ◌%◌, ◌^◌, ◌<◌, ◌≤◌, ◌≢◌, ◌⊎◌, List, [], ◌∷◌, length, get_or, set, refl, sym, ap, ◌∙◌, inl}
use Rattle.std.proofs.Common.{inr, arith, length-append, length-set, get_or-set_same, get_or-set_other}
use Rattle.std.proofs.lemmas.Bool.{cases_lt}
use Rattle.std.proofs.lemmas.List.{get_or_append_left, get_or-append_right, get_or_past}
use Rattle.std.proofs.lemmas.Nat.{from_le_bytes-to_le_bytes_8}
use Rattle.std.specs.Int.{w64, byte_at, to_le_bytes}
use Rattle.gv_arena.specs.Rows.{bytes_of, words_from, IsCopied}
use Rattle.gv_arena.proofs.Bytes.{window, window_first, window_second, byte_of_zero, byte_in_list}

pub length-bytes_of : (ws : List ℕ) → length (bytes_of ws) ≡ length ws * 8
length-bytes_of [] = refl
length-bytes_of (w ∷ ws) = omega (arith, length-append (to_le_bytes w64 w) (bytes_of ws), length-bytes_of ws)

pub get_or-bytes_of : (ws : List ℕ) (j m : ℕ) → m < 8 → j < length ws → get_or (bytes_of ws) (j * 8 + m) 0 ≡ byte_at m (get_or ws j 0)
get_or-bytes_of [] j m lm lj = absurd (omega arith)
get_or-bytes_of (w ∷ ws) zero m lm lj = let at : 0 * 8 + m ≡ m = omega arith in
    ap (λ (i : ℕ). get_or (bytes_of (w ∷ ws)) i 0) at ∙ get_or_append_left (to_le_bytes w64 w) (bytes_of ws) 0 m lm ∙ byte_in_list w m lm
get_or-bytes_of (w ∷ ws) (suc j) m lm lj =
    let at : suc j * 8 + m - 8 ≡ j * 8 + m = omega arith in
    get_or-append_right (to_le_bytes w64 w) (bytes_of ws) 8 (suc j * 8 + m) 0 refl (omega arith)
    ∙ ap (λ (i : ℕ). get_or (bytes_of ws) i 0) at ∙ get_or-bytes_of ws j m lm (omega arith)

pub words_from-bytes_of : (ws : List ℕ) → ((i : ℕ) → get_or ws i 0 < 2 ^ 64) → words_from (bytes_of ws) ≡ ws
unfolding words_from
words_from-bytes_of [] fits = refl
words_from-bytes_of (w ∷ ws) fits = λ i. from_le_bytes-to_le_bytes_8 w (fits 0) i ∷ words_from-bytes_of ws (λ k. fits (suc k)) i

module _ (ws : List ℕ) (long : length ws ≡ 512) (fits : (i : ℕ) → get_or ws i 0 < 2 ^ 64) where
  -- eight bytes from a byte of the page on
  pub window_reads : (at next : ℕ) → at < 4096 → next ≡ get_or ws (at / 8 + 1) 0
      → (i : ℕ) → i < 8 → byte_at i (window (get_or ws (at / 8) 0) next (at % 8)) ≡ get_or (bytes_of ws) (at + i) 0
  window_reads at next below is i lt =
      let low = get_or ws (at / 8) 0 in
      elim (cases_lt (at % 8 + i) 8) [
        | inl first ↦ (let place : at / 8 * 8 + (at % 8 + i) ≡ at + i = omega arith in
            window_first low next (fits (at / 8)) (at % 8) i lt first
            ∙ sym (get_or-bytes_of ws (at / 8) (at % 8 + i) first (omega (arith, long))) ∙ ap (λ (k : ℕ). get_or (bytes_of ws) k 0) place)
        | inr second ↦ (let j = at % 8 + i - 8 in
            let sum : at % 8 + i ≡ 8 + j = omega arith in
            let small : j < 8 = omega arith in
            let place : (at / 8 + 1) * 8 + j ≡ at + i = omega arith in
            window_second low next (fits (at / 8)) (at % 8) i lt j sum
            ∙ elim (cases_lt (at / 8 + 1) 512) [
              | inl inside ↦ ap (byte_at j) is ∙ sym (get_or-bytes_of ws (at / 8 + 1) j small (omega (arith, long))) ∙ ap (λ (k : ℕ). get_or (bytes_of ws) k 0) place
              | inr past ↦ ap (byte_at j) (is ∙ get_or_past ws (at / 8 + 1) 0 (omega (arith, long))) ∙ byte_of_zero j ∙ sym (get_or_past (bytes_of ws) (at + i) 0 (omega (arith, long, length-bytes_of ws)))
            ])
      ]

-- a word is replaced
module _ (ws : List ℕ) (j w : ℕ) (within : j < length ws) where
  pub same_bytes : (i : ℕ) → i / 8 ≢ j → get_or (bytes_of (set ws j w)) i 0 ≡ get_or (bytes_of ws) i 0
  same_bytes i apart =
      let place : i / 8 * 8 + i % 8 ≡ i = omega arith in
      let small : i % 8 < 8 = omega arith in
      elim (cases_lt (i / 8) (length ws)) [
        | inl inside ↦ sym (ap (λ (k : ℕ). get_or (bytes_of (set ws j w)) k 0) place)
            ∙ get_or-bytes_of (set ws j w) (i / 8) (i % 8) small (omega (arith, length-set ws j w)) ∙ ap (byte_at (i % 8)) (get_or-set_other ws j (i / 8) w 0 apart)
            ∙ sym (get_or-bytes_of ws (i / 8) (i % 8) small inside) ∙ ap (λ (k : ℕ). get_or (bytes_of ws) k 0) place
        | inr past ↦ get_or_past (bytes_of (set ws j w)) i 0 (omega (arith, length-bytes_of (set ws j w), length-set ws j w))
            ∙ sym (get_or_past (bytes_of ws) i 0 (omega (arith, length-bytes_of ws)))
      ]

  pub new_bytes : (m : ℕ) → m < 8 → get_or (bytes_of (set ws j w)) (j * 8 + m) 0 ≡ byte_at m w
  new_bytes m small = get_or-bytes_of (set ws j w) j m small (omega (arith, length-set ws j w)) ∙ ap (byte_at m) (get_or-set_same ws j w 0 within)

-- whole words are copied
module _ (source old new : List ℕ) (from to n : ℕ) (inside : from + n ≤ length source) (room : to + n ≤ length old) (long : length new ≡ length old)
    (copied : (k : ℕ) → k < n → get_or new (to + k) 0 ≡ get_or source (from + k) 0)
    (others : (k : ℕ) → (k < to) ⊎ (to + n ≤ k) → get_or new k 0 ≡ get_or old k 0) where
  other_byte : (i : ℕ) → (i / 8 < to) ⊎ (to + n ≤ i / 8) → get_or (bytes_of new) i 0 ≡ get_or (bytes_of old) i 0
  other_byte i out =
      let place : i / 8 * 8 + i % 8 ≡ i = omega arith in
      let small : i % 8 < 8 = omega arith in
      elim (cases_lt (i / 8) (length old)) [
        | inl within ↦ sym (ap (λ (k : ℕ). get_or (bytes_of new) k 0) place) ∙ get_or-bytes_of new (i / 8) (i % 8) small (omega (arith, long)) ∙ ap (byte_at (i % 8)) (others (i / 8) out)
            ∙ sym (get_or-bytes_of old (i / 8) (i % 8) small within) ∙ ap (λ (k : ℕ). get_or (bytes_of old) k 0) place
        | inr past ↦ get_or_past (bytes_of new) i 0 (omega (arith, length-bytes_of new, long)) ∙ sym (get_or_past (bytes_of old) i 0 (omega (arith, length-bytes_of old)))
      ]

  pub words_copied : IsCopied (bytes_of source) (bytes_of old) (bytes_of new) (from * 8) (to * 8) (n * 8)
  words_copied = record {
    copied = λ i lt.
        let there : (to + i / 8) * 8 + i % 8 ≡ to * 8 + i = omega arith in
        let here : (from + i / 8) * 8 + i % 8 ≡ from * 8 + i = omega arith in
        let small : i % 8 < 8 = omega arith in
        sym (ap (λ (k : ℕ). get_or (bytes_of new) k 0) there) ∙ get_or-bytes_of new (to + i / 8) (i % 8) small (omega (arith, long))
        ∙ ap (byte_at (i % 8)) (copied (i / 8) (omega arith))
        ∙ sym (get_or-bytes_of source (from + i / 8) (i % 8) small (omega arith)) ∙ ap (λ (k : ℕ). get_or (bytes_of source) k 0) here;
    before = λ i lt. other_byte i (inl (omega arith));
    after = λ i le. other_byte i (inr (omega arith));
  }
