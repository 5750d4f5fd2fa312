-- Bytes of a row that lie in one page are put into its words at once.
use Rattle.std.proofs.Common.{◌≡◌, ◌≢◌, ◌⊎◌, ℕ, zero, suc, ◌+◌, ◌/◌, ◌%◌, ◌<◌, ◌≤◌, ◌||◌, Bool, true, false, List, Option, None, Some, get_or, set, refl, sym, ap, subst, ◌∙◌, inl, inr, arith}
use Rattle.std.proofs.lemmas.Bool.Decides.{nat_tests}
use Rattle.std.specs.Int.{w64, to_le_bytes, from_le_bytes}
use Rattle.gv_types.specs.Maps.{put}
use Rattle.gv_types.specs.Bits.{with_byte}
use Rattle.gv_gpu.specs.Device.{Device, Loaded}
use Rattle.gv_gpu.specs.Physical.{word_in, word_stored, byte_stored, write_page, write_strays}
use Rattle.gv_gpu.specs.Step.{Stepping, bytes_stored}
use Rattle.gv_engine.specs.Pages.{bytes_put}
use Rattle.gv_engine.specs.Rows.{reworded, put_in}
use Rattle.gv_engine.specs.Walk.{walk_of, is_table, names}
use Rattle.gv_engine.specs.declared.walk.Walk.{Walk}
use Rattle.gv_engine.proofs.PagesLemmas.{put-same, put-own, put-twice}
use Rattle.gv_engine.proofs.SpanLemmas.{KeepsTables, keeps-all, keeps-others, write_page-same, write_strays-same}

put_in-none : (d : Device) (page : Option ℕ) (at : ℕ) (bytes : ℕ → ℕ) → put_in d page at bytes 0 ≡ d
unfolding bytes_put
put_in-none d None at bytes = refl
put_in-none d (Some page) at bytes = λ i. reworded d (put-own d.words page i)

same_digit : (word a b v : ℕ) → a % 8 ≡ b % 8 → with_byte word a v ≡ with_byte word b v
same_digit word a b v e = ap (λ k. from_le_bytes w64 (set (to_le_bytes w64 word) k v)) e

-- one byte more
put_in-more : (d : Device) (page : Option ℕ) (at : ℕ) (bytes : ℕ → ℕ) (n : ℕ) → at % 4096 + n < 4096
    → word_stored (put_in d page at bytes n) page (at + n) (with_byte (word_in (put_in d page at bytes n) page (at + n)) (at + n) (bytes n)) ≡ put_in d page at bytes (suc n)
unfolding bytes_put
put_in-more d None at bytes n within = refl
put_in-more d (Some page) at bytes n within =
    let before = bytes_put (d.words page) (at % 4096) bytes n in
    let after : ℕ → ℕ → List ℕ → List ℕ = λ k here ws. set ws k (with_byte (get_or ws k 0) here (bytes n)) in
    let place : (at + n) % 4096 / 8 ≡ (at % 4096 + n) / 8 = omega arith in
    let digit : (at + n) % 8 ≡ (at % 4096 + n) % 8 = omega arith in
    (λ i. reworded d (put-twice d.words page before (after ((at + n) % 4096 / 8) (at + n) (put d.words page before page)) i))
    ∙ ap (λ ws. reworded d (put d.words page (after ((at + n) % 4096 / 8) (at + n) ws))) (put-same d.words page before)
    ∙ ap (λ k. reworded d (put d.words page (after k (at + n) before))) place
    ∙ ap (λ k. reworded d (put d.words page (set before ((at % 4096 + n) / 8) k))) (same_digit (get_or before ((at % 4096 + n) / 8) 0) (at + n) (at % 4096 + n) (bytes n) digit)

module _ (d : Device) (at : ℕ) (bytes : ℕ → ℕ) (w : Walk) where
  others_same : (page : ℕ) (words : List ℕ) (q : ℕ) → q ≢ page → put d.words page words q ≡ d.words q
  others_same page words q differs = grind (arith, nat_tests)

  keeps_none : (page : ℕ) → KeepsTables d (put d.words page (bytes_put (d.words page) (at % 4096) bytes 0)) w
  unfolding bytes_put
  keeps_none page = subst (λ (words : ℕ → List ℕ). KeepsTables d words w) (sym (put-own d.words page)) (keeps-all d w)

  pub keeps-put : (page n : ℕ) → (n ≡ 0) ⊎ (is_table w page ≡ false) → KeepsTables d (put d.words page (bytes_put (d.words page) (at % 4096) bytes n)) w
  keeps-put page n (inl none) = subst (λ (k : ℕ). KeepsTables d (put d.words page (bytes_put (d.words page) (at % 4096) bytes k)) w) (sym none) (keeps_none page)
  keeps-put page n (inr apart) = keeps-others d (put d.words page (bytes_put (d.words page) (at % 4096) bytes n)) page (others_same page (bytes_put (d.words page) (at % 4096) bytes n)) w apart

module _ (d : Device) (l : Loaded) (at : ℕ) (bytes : ℕ → ℕ) (n : ℕ) (within : at % 4096 + n < 4096) where
  abbrev walk : Walk
  walk = walk_of d l.root false at

  same : (at + n) / 4096 ≡ at / 4096
  same = omega arith

  pub page-stays : (page : Option ℕ) → (n ≡ 0) ⊎ (names (walk_of d l.root false at) page ≡ false) → write_page (put_in d page at bytes n) l.root false (at + n) ≡ write_page d l.root false at
  page-stays None first = write_page-same d d.words l.root (at + n) at same (keeps-all d (walk_of d l.root false at))
  page-stays (Some page) first = write_page-same d (put d.words page (bytes_put (d.words page) (at % 4096) bytes n)) l.root (at + n) at same (keeps-put d at bytes (walk_of d l.root false at) page n first)

  pub strays-stay : (page : Option ℕ) → (n ≡ 0) ⊎ (names (walk_of d l.root false at) page ≡ false) → write_strays (put_in d page at bytes n) l false (at + n) ≡ write_strays d l false at
  strays-stay None first = write_strays-same d d.words l (at + n) at same (keeps-all d (walk_of d l.root false at))
  strays-stay (Some page) first = write_strays-same d (put d.words page (bytes_put (d.words page) (at % 4096) bytes n)) l (at + n) at same (keeps-put d at bytes (walk_of d l.root false at) page n first)

abbrev one_stored : Stepping → ℕ → ℕ → Stepping
one_stored t at value = record t { device = byte_stored t.device t.context.root false at value; strayed = t.strayed || write_strays t.device t.context false at }

one_less : (n : ℕ) (P : Type 0) → (suc n ≡ 1) ⊎ P → (n ≡ 0) ⊎ P
one_less n P (inl one) = inl (omega arith)
one_less n P (inr p) = inr p

module _ (s : Stepping) (at : ℕ) (bytes : ℕ → ℕ) (page : Option ℕ) (is : page ≡ write_page s.device s.context.root false at) where
  -- with the first n bytes in place
  abbrev so_far : ℕ → Bool → Stepping
  so_far n strayed = record s { device = put_in s.device page at bytes n; strayed = strayed }

  stored_next : (n : ℕ) (strayed : Bool) → at % 4096 + n < 4096 → (n ≡ 0) ⊎ (names (walk_of s.device s.context.root false at) page ≡ false)
      → one_stored (so_far n strayed) (at + n) (bytes n) ≡ so_far (suc n) (strayed || write_strays s.device s.context false at)
  unfolding byte_stored
  stored_next n strayed within first =
      let d = s.device in
      let e = put_in d page at bytes n in
      let here = page-stays d s.context at bytes n within page first ∙ sym is in
      let device = ap (λ p. word_stored e p (at + n) (with_byte (word_in e p (at + n)) (at + n) (bytes n))) here ∙ put_in-more d page at bytes n within in
      let strays = ap (λ b. strayed || b) (strays-stay d s.context at bytes n within page first) in
      λ i. record s { device = device i; strayed = strays i }

  or_same : (a b : Bool) → (a || b || b) ≡ (a || b)
  or_same true true = refl
  or_same true false = refl
  or_same false true = refl
  or_same false false = refl

  later_bytes : (n : ℕ) (P : Type 0) → (suc n ≡ 0) ⊎ P → P
  later_bytes n P (inl none) = absurd (omega arith)
  later_bytes n P (inr p) = p

  pub span-stored : (n : ℕ) → at % 4096 + suc n ≤ 4096 → (n ≡ 0) ⊎ (names (walk_of s.device s.context.root false at) page ≡ false)
      → bytes_stored s at bytes (suc n) ≡ so_far (suc n) (s.strayed || write_strays s.device s.context false at)
  unfolding bytes_stored
  span-stored zero within first =
      ap (λ d. one_stored (record s { device = d }) (at + 0) (bytes 0)) (sym (put_in-none s.device page at bytes)) ∙ stored_next 0 s.strayed (omega arith) (inl refl)
  span-stored (suc n) within first =
      let strays = write_strays s.device s.context false at in
      let apart = later_bytes n _ first in
      ap (λ t. one_stored t (at + suc n) (bytes (suc n))) (span-stored n (omega arith) (inr apart))
      ∙ stored_next (suc n) (s.strayed || strays) (omega arith) (inr apart)
      ∙ ap (so_far (suc (suc n))) (or_same s.strayed strays)

  -- a span is stored at once
  pub span-put : (count : ℕ) (next : Device) (after : Bool) → 0 < count → at % 4096 + count ≤ 4096 → (count ≡ 1) ⊎ (names (walk_of s.device s.context.root false at) page ≡ false)
      → next ≡ put_in s.device page at bytes count → after ≡ (s.strayed || write_strays s.device s.context false at)
      → record s { device = next; strayed = after } ≡ bytes_stored s at bytes count
  span-put zero next after some within first is_next is_after = absurd (omega arith)
  span-put (suc n) next after some within first is_next is_after =
      let one : (suc n ≡ 1) ⊎ (names (walk_of s.device s.context.root false at) page ≡ false) → (n ≡ 0) ⊎ (names (walk_of s.device s.context.root false at) page ≡ false) = one_less n _ in
      (λ i. record s { device = is_next i; strayed = is_after i }) ∙ sym (span-stored n within (one first))
