-- A bad entry of a live table, and the tables that live tables name.
use Rattle.std.proofs.Common.{ℕ, zero, suc, ◌+◌, ◌-◌, ◌≤◌, ◌<◌, ◌≡◌, Bool, true, false, eqb, cond, not, List, [], ◌∷◌, length, refl, sym, ap, ◌∙◌, subst, arith, ⊎_elim, ◌%◌, ltb}
use Rattle.std.specs.List.{list_any}
use Rattle.std.proofs.lemmas.Bool.{eqb-true, eqb-false, eq-eqb, or_parts, not-false, ltb-true, cases_eq, cases_lt, and_parts}
use Rattle.std.proofs.lemmas.List.{get_or-map}
use Rattle.std.proofs.lemmas.List.Folds.{Any-from_list_any, list_any_at}
use Rattle.gv_types.specs.Memory.{Memory}
use Rattle.gv_entry.specs.declared.process.Process.{Process}
use Rattle.gv_entry.specs.declared.process.Process.TheVariants.{Absent, Table, Page, Bad, Large}
use Rattle.gv_types.specs.Bits.{has_bit}
use Rattle.gv_entry.specs.Entry.{process_entry, is_bad, process_frame_of, is_large, base_frame_of}
use Rattle.gv_entry.specs.Tables.{level_entry, frame_words, any_entry, is_bad_entry, has_bad_entry, live, names}
use Rattle.gv_gpu.specs.Device.{Device}
use Rattle.gv_guest.specs.Placed.{Placed, Hosts, memory_in}
use Rattle.gv_shape.specs.Shadow.{is_live, split_level}
use Rattle.gv_shape.proofs.Live.{named_by}
use Rattle.gv_shape.specs.Counts.{above}
use Rattle.gv_sppgtt.specs.Sound.{IsBelow}

-- each frame of a memory that stands has 512 words
pub frame-words : (d : Device) (placed : Placed) (frame : ℕ) → Hosts d placed → frame < length placed.pages → length (frame_words (memory_in d placed) frame) ≡ 512
frame-words d placed frame stands low = ap length (get_or-map d.words placed.pages frame 0 [] low) ∙ stands.long frame low

-- what an entry that is present says, by its parts
abbrev entry_parts : Bool → Bool → Bool → Bool → Bool → ℕ → ℕ → Bool → Process
entry_parts absent large whole bad one base f v = cond absent Absent (cond large (cond whole (Large base v) Bad) (cond bad Bad (cond one (Page f v) (Table f))))

good_frame : (word level frames : ℕ) → is_bad word level frames ≡ false → process_frame_of word < frames
good_frame word level frames good = let x = or_parts _ _ good in let y = or_parts _ _ x.0 in ltb-true _ _ (not-false _ y.0)

pub page-is : (word level frames t : ℕ) (w : Bool) → process_entry word level frames ≡ Page t w → (level ≡ 1) × (t < frames)
page-is word level frames t w e = by (not (has_bit word 0)) (is_large word level) (ltb (base_frame_of word + 511) frames) (is_bad word level frames) (eqb level 1) refl refl e
  where
    by : (a l n c one : Bool) → is_bad word level frames ≡ c → eqb level 1 ≡ one → entry_parts a l n c one (base_frame_of word) (process_frame_of word) (has_bit word 1) ≡ Page t w → (level ≡ 1) × (t < frames)
    by true l n c one bad is e = cc
    by false true true c one bad is e = cc
    by false true false c one bad is e = cc
    by false false n true one bad is e = cc
    by false false n false true bad is e = let same : process_frame_of word ≡ t = cc in (eqb-true level 1 is, subst (λ x. x < frames) same (good_frame word level frames bad))
    by false false n false false bad is e = cc

pub table-is : (word level frames t : ℕ) → 1 ≤ level → process_entry word level frames ≡ Table t → (2 ≤ level) × (t < frames)
table-is word level frames t low e = by (not (has_bit word 0)) (is_large word level) (ltb (base_frame_of word + 511) frames) (is_bad word level frames) (eqb level 1) refl refl e
  where
    high : eqb level 1 ≡ false → 2 ≤ level
    high is = let other = eqb-false level 1 is in ⊎_elim (λ x. absurd (other x)) (λ x. ⊎_elim (λ lt. absurd (omega arith)) (λ ge. ge) (cases_lt level 2)) (cases_eq level 1)

    by : (a l n c one : Bool) → is_bad word level frames ≡ c → eqb level 1 ≡ one → entry_parts a l n c one (base_frame_of word) (process_frame_of word) (has_bit word 1) ≡ Table t → (2 ≤ level) × (t < frames)
    by true l n c one bad is e = cc
    by false true true c one bad is e = cc
    by false true false c one bad is e = cc
    by false false n true one bad is e = cc
    by false false n false true bad is e = cc
    by false false n false false bad is e = let same : process_frame_of word ≡ t = cc in (high is, subst (λ x. x < frames) same (good_frame word level frames bad))

pub large-is : (word level frames b : ℕ) (w : Bool) → process_entry word level frames ≡ Large b w → (level ≡ 2) × ((b % 512 ≡ 0) × (b + 511 < frames))
large-is word level frames b w e = by (not (has_bit word 0)) (is_large word level) (ltb (base_frame_of word + 511) frames) (is_bad word level frames) (eqb level 1) refl refl e
  where
    steps : base_frame_of word % 512 ≡ 0
    steps = grind arith

    by : (a l n c one : Bool) → is_large word level ≡ l → ltb (base_frame_of word + 511) frames ≡ n → entry_parts a l n c one (base_frame_of word) (process_frame_of word) (has_bit word 1) ≡ Large b w → (level ≡ 2) × ((b % 512 ≡ 0) × (b + 511 < frames))
    by true l n c one is low e = cc
    by false true true c one is low e =
        let same : base_frame_of word ≡ b = cc in
        let parts = and_parts _ _ is in
        (eqb-true level 2 parts.1, subst (λ x. (x % 512 ≡ 0) × (x + 511 < frames)) same (steps, ltb-true _ _ low))
    by false true false c one is low e = cc
    by false false n true one is low e = cc
    by false false n false true is low e = cc
    by false false n false false is low e = cc

module _ (m : Memory) (roots : List ℕ) (level frame index : ℕ) (low : 1 ≤ level) (high : level ≤ 4) (there : is_live m roots level frame ≡ true) (within : index < length (frame_words m frame)) where
  pub bad-here : level_entry m level frame index ≡ Bad → has_bad_entry m roots ≡ true
  bad-here is = at level low high any
    where
      word : any_entry m level is_bad_entry frame ≡ true
      word = list_any_at (λ w. is_bad_entry (process_entry w level (length m))) (frame_words m frame) index 0 within (ap is_bad_entry is)

      any : list_any (any_entry m level is_bad_entry) (live m roots level) ≡ true
      any =
          let at = Any-from_list_any (λ t. eqb t frame) (live m roots level) there in
          list_any_at (any_entry m level is_bad_entry) (live m roots level) at.0 at.1 at.2 (ap (any_entry m level is_bad_entry) (at.3 ∙ eqb-true at.1 frame at.4) ∙ word)

      at : (k : ℕ) → 1 ≤ k → k ≤ 4 → list_any (any_entry m k is_bad_entry) (live m roots k) ≡ true → has_bad_entry m roots ≡ true
      at zero l h e = absurd (omega arith)
      at (suc zero) l h e = list_any_at (λ k. list_any (any_entry m k is_bad_entry) (live m roots k)) (4 ∷ 3 ∷ 2 ∷ 1 ∷ []) 3 0 (omega arith) e
      at (suc (suc zero)) l h e = list_any_at (λ k. list_any (any_entry m k is_bad_entry) (live m roots k)) (4 ∷ 3 ∷ 2 ∷ 1 ∷ []) 2 0 (omega arith) e
      at (suc (suc (suc zero))) l h e = list_any_at (λ k. list_any (any_entry m k is_bad_entry) (live m roots k)) (4 ∷ 3 ∷ 2 ∷ 1 ∷ []) 1 0 (omega arith) e
      at (suc (suc (suc (suc zero)))) l h e = list_any_at (λ k. list_any (any_entry m k is_bad_entry) (live m roots k)) (4 ∷ 3 ∷ 2 ∷ 1 ∷ []) 0 0 (omega arith) e
      at (suc (suc (suc (suc (suc k))))) l h e = absurd (omega arith)

  pub live-child : (to : ℕ) → 2 ≤ level → to < length m → level_entry m level frame index ≡ Table to → is_live m roots (level - 1) to ≡ true
  live-child to two small is = at level two high there within (ap (names to) is ∙ eq-eqb to to refl)
    where
      at : (k : ℕ) → 2 ≤ k → k ≤ 4 → is_live m roots k frame ≡ true → index < length (frame_words m frame) → names to (level_entry m k frame index) ≡ true → is_live m roots (k - 1) to ≡ true
      at zero l h t w e = absurd (omega arith)
      at (suc zero) l h t w e = absurd (omega arith)
      at (suc (suc zero)) l h t w e = named_by m 2 (live m roots 2) to frame index small t w e
      at (suc (suc (suc zero))) l h t w e = named_by m 3 (live m roots 3) to frame index small t w e
      at (suc (suc (suc (suc zero)))) l h t w e = named_by m 4 (live m roots 4) to frame index small t w e
      at (suc (suc (suc (suc (suc k))))) l h t w e = absurd (omega arith)

-- the split table of a large entry
pub below-large : (frames level b lower : ℕ) (w : Bool) → lower ≡ split_level w → level ≡ 2 → b % 512 ≡ 0 → b + 511 < frames → IsBelow frames level b lower
below-large frames level b lower true is two whole low = record { above = ap above is ∙ sym two; low = omega arith; six = omega arith; high = omega arith; four = omega arith; small = omega arith; whole = λ many. (whole, low) }
below-large frames level b lower false is two whole low = record { above = ap above is ∙ sym two; low = omega arith; six = omega arith; high = omega arith; four = omega arith; small = omega arith; whole = λ many. (whole, low) }
