-- What bytes that are held say of what is still to come, by where the first line feed stands among those
-- within the limit.
use Rattle.std.proofs.Common.{◌≡◌, ℕ, ◌+◌, ◌-◌, ◌<◌, ◌≤◌, Bool, true, false, List, [], ◌∷◌, ◌++◌, length, take, drop, refl, ap, sym, ◌∙◌, arith, if◌then◌else◌, nat_le, subst, append_assoc, append-nil, length-append, length-take, length-drop, ⊎_elim}
use Rattle.std.specs.List.{position_or_len}
use Rattle.std.proofs.lemmas.Bool.{cond_both, le-leb, lt-leb, lt-ltb, le-ltb, cases_lt}
use Rattle.std.proofs.lemmas.List.{take-take, take-append-le, take-append-drop, drop-append-le, drop-take}
use Rattle.gv_text.specs.Script.{is_line_feed, is_last_line, is_too_long, lines_of}
use Rattle.gv_lines.specs.Coming.{Coming, coming_in, onto_coming, nothing_coming}
use Rattle.gv_lines.specs.Reader.{BeginsLong}
use Rattle.gv_lines.proofs.Buffer.{take_second}
use Rattle.gv_lines.proofs.Lines.{position-front, position-past, lines_of-at, lines_of-one, lines_of-none, lines_of-long}

pub coming_in-whole : (room : ℕ) (bytes : List ℕ) → length bytes ≤ room → coming_in room bytes ≡ record { lines = lines_of is_last_line bytes; whole = true }
coming_in-whole room bytes within = ap (λ t. if t then (record { lines = lines_of is_last_line bytes; whole = true }) else (record { lines = lines_of is_too_long (take room bytes); whole = false })) (le-leb (length bytes) room within)

pub coming_in-cut : (room : ℕ) (bytes : List ℕ) → room < length bytes → coming_in room bytes ≡ record { lines = lines_of is_too_long (take room bytes); whole = false }
coming_in-cut room bytes past = ap (λ t. if t then (record { lines = lines_of is_last_line bytes; whole = true }) else (record { lines = lines_of is_too_long (take room bytes); whole = false })) (lt-leb (length bytes) room past)

pub coming_in-empty : (room : ℕ) → coming_in room [] ≡ nothing_coming true
coming_in-empty room = coming_in-whole room [] (omega arith)

module _ (room : ℕ) (held more : List ℕ) where
  -- the text begins with the bytes that are held within the limit
  front_first : held ++ more ≡ take room held ++ (drop room held ++ more)
  front_first = ap (λ l. l ++ more) (sym (take-append-drop room held)) ∙ append_assoc (take room held) (drop room held) more

  -- and so does what of the text is within the limit
  front_within : take room (held ++ more) ≡ take room held ++ take (room - length (take room held)) (drop room held ++ more)
  front_within =
      let front = take room held in
      let long : length front + (room - length front) ≡ room = omega (arith, length-take {A = ℕ}) in
      ap (take room) front_first
      ∙ ap (λ n. take n (front ++ (drop room held ++ more))) (sym long)
      ∙ take_second front (drop room held ++ more) (length front) (room - length front) refl

  -- a line feed behind p bytes
  module _ (p : ℕ) (at : position_or_len is_line_feed (take room held) ≡ p) (inside : p < length (take room held)) where
    few : (p < room) × (p < length held)
    few = (omega (arith, length-take {A = ℕ}), omega (arith, length-take {A = ℕ}))

    first_whole : (counts : List ℕ → Bool) → lines_of counts (held ++ more) ≡ take p held ∷ lines_of counts (drop (p + 1) held ++ more)
    first_whole counts =
        let bound = few in
        let there = ap (position_or_len is_line_feed) front_first ∙ position-front (take room held) (drop room held ++ more) (subst (λ n. n < length (take room held)) (sym at) inside) ∙ at in
        lines_of-at counts (held ++ more) p there (omega (arith, length-append {A = ℕ}))
        ∙ (λ i. take-append-le p held more (omega arith) i ∷ lines_of counts (drop-append-le (p + 1) held more (omega arith) i))

    first_within : (counts : List ℕ → Bool) → room ≤ length (held ++ more) → lines_of counts (take room (held ++ more)) ≡ take p held ∷ lines_of counts (take (room - (p + 1)) (drop (p + 1) held ++ more))
    first_within counts cut =
        let bound = few in
        let text = held ++ more in
        let rest = take (room - length (take room held)) (drop room held ++ more) in
        let there = ap (position_or_len is_line_feed) front_within ∙ position-front (take room held) rest (subst (λ n. n < length (take room held)) (sym at) inside) ∙ at in
        let all : p + 1 + (room - (p + 1)) ≡ room = omega arith in
        let first : take p (take room text) ≡ take p held = take-take p room text (omega arith) ∙ take-append-le p held more (omega arith) in
        let behind : drop (p + 1) (take room text) ≡ take (room - (p + 1)) (drop (p + 1) held ++ more) =
        ap (λ n. drop (p + 1) (take n text)) (sym all) ∙ drop-take (p + 1) (room - (p + 1)) text ∙ ap (take (room - (p + 1))) (drop-append-le (p + 1) held more (omega arith)) in
        lines_of-at counts (take room text) p there (omega (arith, length-take {A = ℕ}))
        ∙ (λ i. first i ∷ lines_of counts (behind i))

    pub line-coming : coming_in room (held ++ more) ≡ onto_coming (take p held) (coming_in (room - (p + 1)) (drop (p + 1) held ++ more))
    line-coming =
        let bound = few in
        let rest = drop (p + 1) held ++ more in
        let long : length rest + (p + 1) ≡ length (held ++ more) = simp (length-append, length-drop) (omega arith) in
        ⊎_elim
        (λ cut. coming_in-cut room (held ++ more) cut
        ∙ (λ i. record { lines = first_within is_too_long (omega arith) i; whole = false })
        ∙ ap (onto_coming (take p held)) (sym (coming_in-cut (room - (p + 1)) rest (omega arith))))
        (λ within. coming_in-whole room (held ++ more) within
        ∙ (λ i. record { lines = first_whole is_last_line i; whole = true })
        ∙ ap (onto_coming (take p held)) (sym (coming_in-whole (room - (p + 1)) rest (omega arith))))
        (cases_lt room (length (held ++ more)))

  -- no line feed among the first 257 bytes
  pub long-coming : 256 < position_or_len is_line_feed (take room held) → BeginsLong (coming_in room (held ++ more)).lines
  long-coming past =
      let rest = drop room held ++ more in
      let whole = position-past (take room held) rest in
      let within = position-past (take room held) (take (room - length (take room held)) rest) in
      cond_both (nat_le (length (held ++ more)) room) (record { lines = lines_of is_last_line (held ++ more); whole = true }) (record { lines = lines_of is_too_long (take room (held ++ more)); whole = false }) (λ (c : Coming). BeginsLong c.lines)
      (λ _. lines_of-long is_last_line (held ++ more) (subst (λ t. 256 < position_or_len is_line_feed t) (sym front_first) (omega arith)) (λ part long. lt-ltb 0 (length part) (omega arith)))
      (λ _. lines_of-long is_too_long (take room (held ++ more)) (subst (λ t. 256 < position_or_len is_line_feed t) (sym front_within) (omega arith)) (λ part long. lt-ltb 256 (length part) long))

  -- no line within the limit, and more bytes behind it
  pub past-coming : room < length held → length (take room held) ≤ position_or_len is_line_feed (take room held) → length (take room held) ≤ 256 → coming_in room (held ++ more) ≡ nothing_coming false
  past-coming past plain short =
      let cut : take room (held ++ more) ≡ take room held = take-append-le room held more (omega arith) in
      coming_in-cut room (held ++ more) (omega (arith, length-append {A = ℕ}))
      ∙ (λ i. record { lines = (ap (lines_of is_too_long) cut ∙ lines_of-none is_too_long (take room held) plain (le-ltb 256 (length (take room held)) short)) i; whole = false })

-- at a source's end, what stands behind the last line feed
pub last-coming : (room : ℕ) (held : List ℕ) → length held ≤ room → length held ≤ position_or_len is_line_feed held → 0 < length held → coming_in room (held ++ []) ≡ onto_coming held (nothing_coming true)
last-coming room held within plain some =
    ap (coming_in room) (append-nil held) ∙ coming_in-whole room held within
    ∙ (λ i. record { lines = lines_of-one is_last_line held plain (lt-ltb 0 (length held) some) i; whole = true })
