-- A slot counts as written, or no longer.
use Rattle.std.proofs.Common.{◌≡◌, ◌≢◌, ℕ, ◌+◌, ◌<◌, List, [], ◌∷◌, ◌++◌, Bool, true, false, cond, length, get_or, set, replicate, count_by, ap, sym, ◌∙◌, ⊎_elim, subst, arith, refl}
use Rattle.std.proofs.lemmas.Bool.{cases_eq, false≢true}
use Rattle.std.proofs.lemmas.Grind.{common_steps}
use Rattle.std.proofs.lemmas.List.{same_lists, length-set, length-replicate, get_or-set_same, get_or-set_other}
use Rattle.std.proofs.lemmas.List.Sums.{sum_by-set, count_by-le-length}
use Rattle.gv_sggtt.specs.Entries.{AreWritten}

-- how a write changes the count
counted : (flags : List Bool) (slot : ℕ) (b : Bool) → slot < length flags → count_by (λ w. w) (set flags slot b) + cond (get_or flags slot false) 1 0 ≡ count_by (λ w. w) flags + cond b 1 0
counted flags slot b there = sum_by-set (λ w. cond w 1 0) flags slot b false there

is_flag : (flags : List Bool) (slot : ℕ) → get_or flags slot false ≡ true → slot < length flags
is_flag flags slot is = grind (arith, common_steps)

module _ (values : List ℕ) (written : List ℕ) (flags : List Bool) (w : AreWritten values written flags) (slot value : ℕ) (there : slot < length values) where
  flagged : slot < length flags
  flagged = let each = w.each in omega arith

  pub written-again : get_or flags slot false ≡ true → AreWritten (set values slot value) written flags
  written-again was = record {
    each = w.each ∙ sym (length-set values slot value);
    zero = λ q no.
        let differ : q ≢ slot = λ is. false≢true (sym no ∙ ap (λ i. get_or flags i false) is ∙ was) in
        get_or-set_other values slot q value 0 differ ∙ w.zero q no;
    listed = w.listed;
    once = w.once;
    all = w.all;
  }

  one_more : get_or flags slot false ≡ false → count_by (λ w. w) (set flags slot true) ≡ count_by (λ w. w) flags + 1
  one_more was =
      let step : count_by (λ w. w) (set flags slot true) + 0 ≡ count_by (λ w. w) flags + 1 = subst (λ b. count_by (λ w. w) (set flags slot true) + cond b 1 0 ≡ count_by (λ w. w) flags + 1) was (counted flags slot true flagged) in
      omega arith

  pub room-left : get_or flags slot false ≡ false → length written < length values
  room-left was =
      let more = one_more was in
      let most = count_by-le-length (λ w. w) (set flags slot true) in
      let long = length-set flags slot true in
      let each = w.each in
      let all = w.all in
      omega arith

  last : get_or (written ++ slot ∷ []) (length written) 0 ≡ slot
  last = grind (arith, common_steps)

  longer : length (written ++ slot ∷ []) ≡ length written + 1
  longer = grind (arith, common_steps)

  at_front : (k : ℕ) → k < length written → get_or (written ++ slot ∷ []) k 0 ≡ get_or written k 0
  at_front k h = grind (arith, common_steps)

  before : (k : ℕ) → k < length (written ++ slot ∷ []) → k ≢ length written → k < length written
  before k h differ = let n = longer in omega arith

  at_last : (k : ℕ) → k ≡ length written → get_or (written ++ slot ∷ []) k 0 ≡ slot
  at_last k is = ap (λ i. get_or (written ++ slot ∷ []) i 0) is ∙ last

  module _ (was : get_or flags slot false ≡ false) where
    other : (k : ℕ) → k < length written → get_or written k 0 ≢ slot
    other k h = λ is. false≢true (sym was ∙ ap (λ i. get_or flags i false) (sym is) ∙ w.listed k h)

    never : (P : Type 0) (j k : ℕ) → j < length written → k ≡ length written → get_or (written ++ slot ∷ []) j 0 ≡ get_or (written ++ slot ∷ []) k 0 → P
    never P j k h is same = absurd (other j h (sym (at_front j h) ∙ same ∙ at_last k is))

    pub written-first : AreWritten (set values slot value) (written ++ slot ∷ []) (set flags slot true)
    written-first = record {
      each = length-set flags slot true ∙ w.each ∙ sym (length-set values slot value);
      zero = λ q no.
          let differ : q ≢ slot = λ is. false≢true (sym no ∙ ap (λ i. get_or (set flags slot true) i false) is ∙ get_or-set_same flags slot true false flagged) in
          get_or-set_other values slot q value 0 differ ∙ w.zero q (sym (get_or-set_other flags slot q true false differ) ∙ no);
      listed = λ k h. ⊎_elim
          (λ is. ap (λ i. get_or (set flags slot true) i false) (at_last k is) ∙ get_or-set_same flags slot true false flagged)
          (λ differ.
          ap (λ i. get_or (set flags slot true) i false) (at_front k (before k h differ))
          ∙ get_or-set_other flags slot (get_or written k 0) true false (other k (before k h differ))
          ∙ w.listed k (before k h differ))
          (cases_eq k (length written));
      once = λ j k hj hk same. ⊎_elim
          (λ j_last. ⊎_elim
          (λ k_last. j_last ∙ sym k_last)
          (λ k_before. never (j ≡ k) k j (before k hk k_before) j_last (sym same))
          (cases_eq k (length written)))
          (λ j_before. ⊎_elim
          (λ k_last. never (j ≡ k) j k (before j hj j_before) k_last same)
          (λ k_before. w.once j k (before j hj j_before) (before k hk k_before) (sym (at_front j (before j hj j_before)) ∙ same ∙ at_front k (before k hk k_before)))
          (cases_eq k (length written)))
          (cases_eq j (length written));
      all = one_more was ∙ ap (λ n. n + 1) w.all ∙ sym longer;
    }

module _ (values rest : List ℕ) (slot : ℕ) (flags : List Bool) (w : AreWritten values (rest ++ slot ∷ []) flags) where
  rest_last : get_or (rest ++ slot ∷ []) (length rest) 0 ≡ slot
  rest_last = grind (arith, common_steps)

  rest_longer : length (rest ++ slot ∷ []) ≡ length rest + 1
  rest_longer = grind (arith, common_steps)

  rest_front : (k : ℕ) → k < length rest → get_or (rest ++ slot ∷ []) k 0 ≡ get_or rest k 0
  rest_front k h = grind (arith, common_steps)

  rest_within : (k : ℕ) → k < length rest → k < length (rest ++ slot ∷ [])
  rest_within k h = let n = rest_longer in omega arith

  end_within : length rest < length (rest ++ slot ∷ [])
  end_within = let n = rest_longer in omega arith

  was : get_or flags slot false ≡ true
  was = ap (λ i. get_or flags i false) (sym rest_last) ∙ w.listed (length rest) end_within

  flag_there : slot < length flags
  flag_there = is_flag flags slot was

  pub taken-there : slot < length values
  taken-there = subst (λ n. slot < n) w.each flag_there

  not_again : (k : ℕ) → k < length rest → get_or rest k 0 ≢ slot
  not_again k h = λ is.
      let j : k ≡ length rest = w.once k (length rest) (rest_within k h) end_within (rest_front k h ∙ is ∙ sym rest_last) in
      omega arith

  one_less : count_by (λ w. w) (set flags slot false) + 1 ≡ count_by (λ w. w) flags
  one_less =
      let step : count_by (λ w. w) (set flags slot false) + 1 ≡ count_by (λ w. w) flags + 0 = subst (λ b. count_by (λ w. w) (set flags slot false) + cond b 1 0 ≡ count_by (λ w. w) flags + 0) was (counted flags slot false flag_there) in
      omega arith

  pub written-taken : AreWritten (set values slot 0) rest (set flags slot false)
  written-taken = record {
    each = length-set flags slot false ∙ w.each ∙ sym (length-set values slot 0);
    zero = λ q no. ⊎_elim
        (λ is. ap (λ i. get_or (set values slot 0) i 0) is ∙ get_or-set_same values slot 0 0 taken-there)
        (λ differ. get_or-set_other values slot q 0 0 differ ∙ w.zero q (sym (get_or-set_other flags slot q false false differ) ∙ no))
        (cases_eq q slot);
    listed = λ k h. get_or-set_other flags slot (get_or rest k 0) false false (not_again k h) ∙ ap (λ i. get_or flags i false) (sym (rest_front k h)) ∙ w.listed k (rest_within k h);
    once = λ j k hj hk same. w.once j k (rest_within j hj) (rest_within k hk) (rest_front j hj ∙ same ∙ sym (rest_front k hk));
    all = let less = one_less in let all = w.all in let n = rest_longer in omega arith;
  }

-- where no slot was written, every entry is 0
module _ (values : List ℕ) (flags : List Bool) (w : AreWritten values [] flags) where
  unwritten : (slot : ℕ) (b : Bool) → get_or flags slot false ≡ b → b ≡ false
  unwritten slot false is = refl
  unwritten slot true is =
      let less = counted flags slot false (is_flag flags slot is) in
      let step : count_by (λ w. w) (set flags slot false) + 1 ≡ count_by (λ w. w) flags + 0 = subst (λ b. count_by (λ w. w) (set flags slot false) + cond b 1 0 ≡ count_by (λ w. w) flags + 0) is less in
      let none = w.all in
      absurd (omega arith)

  pub all-zero : values ≡ replicate (length values) 0
  all-zero = same_lists _ _ (sym (length-replicate (length values) 0)) (λ k d h. at k d h)
    where
      at : (k d : ℕ) → k < length values → get_or values k d ≡ get_or (replicate (length values) 0) k d
      at k d h = let zero : get_or values k 0 ≡ 0 = w.zero k (unwritten k (get_or flags k false) refl) in grind (arith, common_steps)
