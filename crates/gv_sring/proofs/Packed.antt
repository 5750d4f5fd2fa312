-- Dwords that are packed into a page: what the page holds then, and that nothing else changes.
use Rattle.std.proofs.Common.{◌≡◌, ◌≢◌, ℕ, suc, zero, ◌+◌, ◌-◌, ◌*◌, ◌/◌, ◌%◌, ◌^◌, ◌<◌, ◌≤◌, Bool, true, false, cond, eqb, List, length, get_or, set, refl, ap, sym, subst, ◌∙◌, arith, ⊎_elim, get_or-set_same, get_or-set_other, add-one}
use Rattle.std.proofs.lemmas.List.{length-set, get_or-replicate, get_or_past}
use Rattle.std.proofs.lemmas.Bool.{cases_lt, cases_eq}
use Rattle.std.proofs.lemmas.Bool.Decides.{nat_tests}
use Rattle.gv_types.specs.Maps.{put}
use Rattle.gv_types.specs.Memory.{zero_words, length-zero_words}
use Rattle.gv_gpu.specs.Device.{Device, poked}
use Rattle.gv_gpu.specs.Part.{Part, outside}
use Rattle.gv_gpu.proofs.Changed.{outside-poked}
use Rattle.gv_sring.specs.Packing.{packed, packed_into, words_in, HoldsPart}

put-same : {A : Type 0} (f : ℕ → A) (k : ℕ) (v : A) → put f k v k ≡ v
put-same f k v = grind (arith, nat_tests)

put-other : {A : Type 0} (f : ℕ → A) (k : ℕ) (v : A) (n : ℕ) → n ≢ k → put f k v n ≡ f n
put-other f k v n differ = grind (arith, nat_tests)

module _ (d : Device) (page : ℕ) (words : List ℕ) (from : ℕ) where
  pub packed-none : packed_into d page words from 0 ≡ d
  unfolding packed_into
  packed-none = refl

  packed-suc : (n : ℕ) → packed_into d page words from (suc n) ≡ poked (packed_into d page words from n) page n (packed words (from + n))
  unfolding packed_into
  packed-suc n = refl

  pub packed-more : (n : ℕ) → packed_into d page words from (n + 1) ≡ poked (packed_into d page words from n) page n (packed words (from + n))
  packed-more n = ap (packed_into d page words from) (add-one n) ∙ packed-suc n

  pub packed-label : (n : ℕ) → (packed_into d page words from n).label ≡ d.label
  unfolding packed_into
  packed-label zero = refl
  packed-label (suc n) = packed-label n

  pub packed-global : (n : ℕ) → (packed_into d page words from n).global ≡ d.global
  unfolding packed_into
  packed-global zero = refl
  packed-global (suc n) = packed-global n

  pub packed-live : (n : ℕ) → (packed_into d page words from n).live ≡ d.live
  unfolding packed_into
  packed-live zero = refl
  packed-live (suc n) = packed-live n

  pub packed-others : (n q : ℕ) → q ≢ page → (packed_into d page words from n).words q ≡ d.words q
  unfolding packed_into
  packed-others zero q differ = refl
  packed-others (suc n) q differ =
      let e = packed_into d page words from n in
      put-other e.words page (set (e.words page) n (packed words (from + n))) q differ ∙ packed-others n q differ

  pub packed-outside : (p : Part) → p.page page (d.label page) ≡ true → (n : ℕ) → outside p (packed_into d page words from n) ≡ outside p d
  unfolding packed_into
  packed-outside p own zero = refl
  packed-outside p own (suc n) =
      let e = packed_into d page words from n in
      outside-poked p e page (ap (λ l. p.page page (l page)) (packed-label n) ∙ own) n (packed words (from + n)) ∙ packed-outside p own n

  pub packed-length : (n : ℕ) → length ((packed_into d page words from n).words page) ≡ length (d.words page)
  unfolding packed_into
  packed-length zero = refl
  packed-length (suc n) =
      let e = packed_into d page words from n in
      ap length (put-same e.words page (set (e.words page) n (packed words (from + n)))) ∙ length-set (e.words page) n _ ∙ packed-length n

  -- a word that is written, and one that isn't
  pub packed-word : (n j : ℕ) → n ≤ length (d.words page) → j < n → get_or ((packed_into d page words from n).words page) j 0 ≡ packed words (from + j)
  unfolding packed_into
  packed-word zero j few less = absurd (omega arith)
  packed-word (suc n) j few less =
      let e = packed_into d page words from n in
      let long = packed-length n in
      let value = packed words (from + n) in
      ap (λ ws. get_or ws j 0) (put-same e.words page (set (e.words page) n value))
      ∙ ⊎_elim
      (λ same.
      let within : n < length (e.words page) = omega arith in
      ap (λ k. get_or (set (e.words page) n value) k 0) same ∙ get_or-set_same (e.words page) n value 0 within ∙ ap (λ k. packed words (from + k)) (sym same))
      (λ differ.
      let before : j < n = omega arith in
      let fewer : n ≤ length (d.words page) = omega arith in
      get_or-set_other (e.words page) n j value 0 differ ∙ packed-word n j fewer before)
      (cases_eq j n)

  pub packed-rest : (n j : ℕ) → n ≤ j → get_or ((packed_into d page words from n).words page) j 0 ≡ get_or (d.words page) j 0
  unfolding packed_into
  packed-rest zero j past = refl
  packed-rest (suc n) j past =
      let e = packed_into d page words from n in
      let differ : j ≢ n = omega arith in
      let before : n ≤ j = omega arith in
      ap (λ ws. get_or ws j 0) (put-same e.words page (set (e.words page) n (packed words (from + n))))
      ∙ get_or-set_other (e.words page) n j (packed words (from + n)) 0 differ
      ∙ packed-rest n j before

abbrev half_by : Bool → ℕ → ℕ
half_by low word = cond low (word % 2 ^ 32) (word / 2 ^ 32)

low_of : (x y : ℕ) → x < 2 ^ 32 → (x + y * 2 ^ 32) % 2 ^ 32 ≡ x
low_of x y h = omega arith

high_of : (x y : ℕ) → x < 2 ^ 32 → (x + y * 2 ^ 32) / 2 ^ 32 ≡ y
high_of x y h = omega arith

zero-half : (b : Bool) → half_by b 0 ≡ 0
zero-half true = refl
zero-half false = refl

zero-word : (j : ℕ) → j < 512 → get_or zero_words j 0 ≡ 0
unfolding zero_words
zero-word j less = get_or-replicate 512 j 0 0 less

module _ (d : Device) (page : ℕ) (words : List ℕ) (part : ℕ) (empty : d.words page ≡ zero_words)
    (small : (k : ℕ) → k < 2 * words_in words part → get_or words (1024 * part + k) 0 < 2 ^ 32) where
  abbrev after : Device
  after = packed_into d page words (512 * part) (words_in words part)

  long : length (d.words page) ≡ 512
  long = ap length empty ∙ length-zero_words

  by-half : (m : ℕ) (b : Bool) → m / 2 < words_in words part → eqb (4 * m % 8) 0 ≡ b → half_by b (packed words (512 * part + m / 2)) ≡ get_or words (1024 * part + m) 0
  by-half m true less is =
      let even : 4 * m % 8 ≡ 0 = grind (arith, nat_tests) in
      let own : 2 * (512 * part + m / 2) ≡ 1024 * part + m = omega arith in
      let here : m < 2 * words_in words part = omega arith in
      let low : get_or words (2 * (512 * part + m / 2)) 0 < 2 ^ 32 = (let P : ℕ → Type 0 = λ n. get_or words n 0 < 2 ^ 32 in subst P (sym own) (small m here)) in
      low_of (get_or words (2 * (512 * part + m / 2)) 0) (get_or words (2 * (512 * part + m / 2) + 1) 0) low ∙ ap (λ n. get_or words n 0) own
  by-half m false less is =
      let odd : 4 * m % 8 ≢ 0 = grind (arith, nat_tests) in
      let own : 2 * (512 * part + m / 2) + 1 ≡ 1024 * part + m = omega arith in
      let first : 2 * (512 * part + m / 2) ≡ 1024 * part + (m - 1) = omega arith in
      let here : m - 1 < 2 * words_in words part = omega arith in
      let low : get_or words (2 * (512 * part + m / 2)) 0 < 2 ^ 32 = (let P : ℕ → Type 0 = λ n. get_or words n 0 < 2 ^ 32 in subst P (sym first) (small (m - 1) here)) in
      high_of (get_or words (2 * (512 * part + m / 2)) 0) (get_or words (2 * (512 * part + m / 2) + 1) 0) low ∙ ap (λ n. get_or words n 0) own

  few : words_in words part ≤ length (d.words page)
  few = let l = long in omega arith

  pub packed-holds : HoldsPart after page words part
  packed-holds m within = ⊎_elim
      (λ less.
      ap (half_by (eqb (4 * m % 8) 0)) (packed-word d page words (512 * part) (words_in words part) (m / 2) few less)
      ∙ by-half m (eqb (4 * m % 8) 0) less refl)
      (λ past.
      let inside : m / 2 < 512 = omega arith in
      let end : length words ≤ 1024 * part + m = omega arith in
      ap (half_by (eqb (4 * m % 8) 0)) (packed-rest d page words (512 * part) (words_in words part) (m / 2) past ∙ ap (λ ws. get_or ws (m / 2) 0) empty ∙ zero-word (m / 2) inside)
      ∙ zero-half (eqb (4 * m % 8) 0)
      ∙ sym (get_or_past words (1024 * part + m) 0 end))
      (cases_lt (m / 2) (words_in words part))
