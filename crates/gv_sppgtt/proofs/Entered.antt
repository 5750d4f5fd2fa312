-- One word of a node is written.
use Rattle.std.proofs.Common.{ℕ, ◌+◌, ◌-◌, ◌/◌, ◌%◌, ◌<◌, ◌≡◌, ◌≢◌, Bool, true, false, eqb, cond, List, Option, None, Some, length, get_or, set, get_or-set_same, get_or-set_other, refl, sym, ap, ◌∙◌, subst, arith, inl, inr, ⊎_elim, ◌⊎◌}
use Rattle.std.proofs.lemmas.Bool.{cases_eq, ne_eqb}
use Rattle.std.proofs.lemmas.Bool.Decides.{nat_tests}
use Rattle.std.proofs.lemmas.List.{length-set}
use Rattle.gv_entry.specs.declared.process.Process.{Process}
use Rattle.gv_entry.specs.declared.process.Process.TheVariants.{Absent, Table, Page, Bad, Large}
use Rattle.gv_gpu.specs.Device.{Device, poked}
use Rattle.gv_guest.specs.Placed.{Placed}
use Rattle.gv_shape.specs.Shadow.{Pages, Readings, Names, Local, table_word, has_leaves, split_level, split_word}
use Rattle.gv_shape.specs.Counts.{total, uses, one_if}
use Rattle.gv_shape.proofs.Totals.{total-same, total-change}
use Rattle.gv_sppgtt.specs.Sound.{decode, reading_at, readings_in, Boarded, Enters}
use Rattle.gv_sppgtt.proofs.Decoded.{decode-even, leaf-page}

same_page : (h w : _) (k v : _) → Page h w ≡ Page k v → h ≡ k
same_page h w k v e = cc

pub table-number : (p : ℕ) → table_word p / 4096 ≡ p
table-number p = omega arith

pub split-number : (p : ℕ) (w : Bool) → split_word p w / 4096 ≡ p
split-number p true = omega arith
split-number p false = omega arith

-- The table that tells frames changes, but not at the pages that words name.
module _ (placed : Placed) (pages : Pages) (guarded : ℕ → Bool) (owners after : List ℕ)
    (at_frames : (h : ℕ) → h < length placed.pages → get_or owners (get_or placed.pages h 0) 0 ≡ h → get_or after (get_or placed.pages h 0) 0 ≡ h)
    (at_nodes : (k f p : ℕ) → pages k f ≡ Some p → get_or after p 0 ≡ get_or owners p 0) where
  moved : (k word : ℕ) (e : Process) → get_or after (word / 4096) 0 ≡ get_or owners (word / 4096) 0 → decode owners k word ≡ e → decode after k word ≡ e
  moved k word e same is =
      ap (λ f. cond (eqb (word % 2) 0) Absent (cond (has_leaves k) (Page f (eqb (word / 4 % 2) 1)) (cond (eqb (word / 4 % 2) 1) (Large f (eqb (word / 8 % 2) 1)) (Table f)))) same ∙ is

  at_node : (k h p word : ℕ) → word / 4096 ≡ p → pages k h ≡ Some p → get_or after (word / 4096) 0 ≡ get_or owners (word / 4096) 0
  at_node k h p word number there = ap (λ n. get_or after n 0) number ∙ at_nodes k h p there ∙ sym (ap (λ n. get_or owners n 0) number)

  pub decode-kept : (k word : ℕ) (e : Process) → Names placed pages guarded k e word → decode owners k word ≡ e → decode after k word ≡ e
  decode-kept k word Absent is e = decode-even after k word is
  decode-kept k word (Table h) is e =
      let p = is.1.1.0 in
      moved k word (Table h) (at_node (k - 1) h p word (ap (λ n. n / 4096) is.1.1.2 ∙ table-number p) is.1.1.1) e
  decode-kept k word (Large b w) is e =
      let p = is.1.0 in
      moved k word (Large b w) (at_node (split_level w) b p word (ap (λ n. n / 4096) is.1.2 ∙ split-number p w) is.1.1) e
  decode-kept k word (Page h w) is e =
      let number : word / 4096 ≡ get_or placed.pages h 0 = ap (λ n. n / 4096) is.2 ∙ leaf-page (get_or placed.pages h 0) w (guarded h) in
      let old : get_or owners (get_or placed.pages h 0) 0 ≡ h = owner_of number (eqb (word % 2) 0) (has_leaves k) is.0 e in
      moved k word (Page h w) (ap (λ n. get_or after n 0) number ∙ at_frames h is.1 old ∙ sym (ap (λ n. get_or owners n 0) number ∙ old)) e
    where
      owner_of : word / 4096 ≡ get_or placed.pages h 0 → (a b : Bool) → b ≡ true → cond a Absent (cond b (Page (get_or owners (word / 4096) 0) (eqb (word / 4 % 2) 1)) (cond (eqb (word / 4 % 2) 1) (Large (get_or owners (word / 4096) 0) (eqb (word / 8 % 2) 1)) (Table (get_or owners (word / 4096) 0)))) ≡ Page h w → get_or owners (get_or placed.pages h 0) 0 ≡ h
      owner_of number true b t e = cc
      owner_of number false true t e = ap (λ n. get_or owners n 0) (sym number) ∙ same_page _ _ _ _ e
      owner_of number false false t e = cc
  decode-kept k word Bad is e = absurd is

-- A word of the node of a frame at a level is written, so that it stands for e.
module _ (d : Device) (placed : Placed) (frames : ℕ) (pages : Pages) (guarded : ℕ → Bool) (owners after : List ℕ)
    (boarded : Boarded d frames pages owners) (local : Local d placed pages guarded (readings_in d.words owners pages))
    (at_frames : (h : ℕ) → h < length placed.pages → get_or owners (get_or placed.pages h 0) 0 ≡ h → get_or after (get_or placed.pages h 0) 0 ≡ h)
    (at_nodes : (k f p : ℕ) → pages k f ≡ Some p → get_or after p 0 ≡ get_or owners p 0)
    (level table page index value : ℕ) (e : Process) (is : pages level table ≡ Some page) (within : index < 512)
    (stands_for : decode after level value ≡ e) (form : Names placed pages guarded level e value) where
  abbrev pub now : Device
  now = poked d page index value

  abbrev pub old_readings : Readings
  old_readings = readings_in d.words owners pages

  abbrev pub new_readings : Readings
  new_readings = readings_in now.words after pages

  node_page : (k f p : ℕ) → pages k f ≡ Some p → p ≡ page → (k ≡ level) × (f ≡ table)
  node_page k f p there same = boarded.apart k f level table page (there ∙ ap (λ n. Some n) same) is

  at_page : now.words page ≡ set (d.words page) index value
  at_page = grind (arith, nat_tests)

  word_here : get_or (now.words page) index 0 ≡ value
  word_here = ap (λ ws. get_or ws index 0) at_page ∙ get_or-set_same (d.words page) index value 0 (rw (boarded.long level table page is) within)

  word_other : (p i : ℕ) → (p ≡ page → i ≡ index → ⊥) → get_or (now.words p) i 0 ≡ get_or (d.words p) i 0
  word_other p i apart =
      ⊎_elim
      (λ same. ap (λ q. get_or (now.words q) i 0) same ∙ ap (λ ws. get_or ws i 0) at_page ∙ get_or-set_other (d.words page) index i value 0 (apart same) ∙ ap (λ q. get_or (d.words q) i 0) (sym same))
      (λ other. ap (λ b. get_or (cond b (set (d.words page) index value) (d.words p)) i 0) (ne_eqb p page other))
      (cases_eq p page)

  reading_node : (words : ℕ → List ℕ) (own : List ℕ) (k f p i : ℕ) → pages k f ≡ Some p → readings_in words own pages k f i ≡ decode own k (get_or (words p) i 0)
  reading_node words own k f p i there = ap (λ o. reading_at words own k o i) there

  other_kept : (k f p i : ℕ) → pages k f ≡ Some p → i < 512 → (k ≡ level → f ≡ table → i ≡ index → ⊥) → (new_readings k f i ≡ old_readings k f i) × (get_or (now.words p) i 0 ≡ get_or (d.words p) i 0)
  other_kept k f p i there small apart =
      let differ : p ≡ page → i ≡ index → ⊥ = λ same at. let pair = node_page k f p there same in apart pair.0 pair.1 at in
      let word = word_other p i differ in
      let was = reading_node d.words owners k f p i there in (
        reading_node now.words after k f p i there ∙ ap (decode after k) word
            ∙ decode-kept placed pages guarded owners after at_frames at_nodes k (get_or (d.words p) i 0) (old_readings k f i) (local.names k f p i there small) (sym was),
        word,
      )

  some_or_none : {A : Type 0} (o : Option A) (P : Type 0) → ((x : A) → o ≡ Some x → P) → (o ≡ None → P) → P
  some_or_none (Some x) P some none = some x refl
  some_or_none None P some none = none refl

  pub enters : Enters old_readings new_readings level table index e
  enters = record {
    here = reading_node now.words after level table page index is ∙ ap (decode after level) word_here ∙ stands_for;
    others = λ k f i small apart. some_or_none (pages k f) (new_readings k f i ≡ old_readings k f i)
        (λ p there. (other_kept k f p i there small apart).0)
        (λ none. ap (λ o. reading_at now.words after k o i) none ∙ sym (ap (λ o. reading_at d.words owners k o i) none));
  }

  names_at : (k f p i : ℕ) → pages k f ≡ Some p → i < 512 → ((k ≡ level) × ((f ≡ table) × (i ≡ index))) ⊎ (k ≡ level → f ≡ table → i ≡ index → ⊥) → Names placed pages guarded k (new_readings k f i) (get_or (now.words p) i 0)
  names_at k f p i there small (inl same) =
      let pair : Some p ≡ Some page = sym there ∙ ap (λ x. pages x f) same.0 ∙ ap (pages level) same.1.0 ∙ is in
      let p_is : p ≡ page = cc in
      let reading : new_readings k f i ≡ e = ap (λ x. new_readings x f i) same.0 ∙ ap (λ x. new_readings level x i) same.1.0 ∙ ap (new_readings level table) same.1.1 ∙ enters.here in
      let word : get_or (now.words p) i 0 ≡ value = ap (λ q. get_or (now.words q) i 0) p_is ∙ ap (λ x. get_or (now.words page) x 0) same.1.1 ∙ word_here in
      subst (λ r. Names placed pages guarded k r (get_or (now.words p) i 0)) (sym reading)
      (subst (λ w. Names placed pages guarded k e w) (sym word) (subst (λ l. Names placed pages guarded l e value) (sym same.0) form))
  names_at k f p i there small (inr apart) =
      let kept = other_kept k f p i there small apart in
      subst (λ r. Names placed pages guarded k r (get_or (now.words p) i 0)) (sym kept.0)
      (subst (λ w. Names placed pages guarded k (old_readings k f i) w) (sym kept.1) (local.names k f p i there small))

  which : (k f i : ℕ) → ((k ≡ level) × ((f ≡ table) × (i ≡ index))) ⊎ (k ≡ level → f ≡ table → i ≡ index → ⊥)
  which k f i =
      ⊎_elim (λ a. ⊎_elim (λ b. ⊎_elim (λ c. inl (a, (b, c))) (λ c. inr (λ _ _ e. c e)) (cases_eq i index)) (λ b. inr (λ _ e _. b e)) (cases_eq f table)) (λ a. inr (λ e _ _. a e)) (cases_eq k level)

  pub local-entered : Local now placed pages guarded new_readings
  local-entered = record {
    labelled = local.labelled;
    names = λ k f p i there small. names_at k f p i there small (which k f i);
  }

  pub boarded-entered : Boarded now frames pages after
  boarded-entered = record {
    low = boarded.low;
    whole = boarded.whole;
    long = λ k f p there. ⊎_elim
        (λ same. ap (λ q. length (now.words q)) same ∙ ap length at_page ∙ length-set (d.words page) index value ∙ boarded.long level table page is)
        (λ other. ap (λ b. length (cond b (set (d.words page) index value) (d.words p))) (ne_eqb p page other) ∙ boarded.long k f p there)
        (cases_eq p page);
    below = boarded.below;
    apart = boarded.apart;
    owner = λ k f p there. at_nodes k f p there ∙ boarded.owner k f p there;
  }

-- how often the words of a level pass a test, when one of them changes
module _ (frames : ℕ) (old new : Readings) (level table index : ℕ) (e : Process) (entered : Enters old new level table index e) (low : table < frames) (within : index < 512) (test : Process → Bool) where
  abbrev inside : Readings → ℕ → ℕ
  inside r f = total 512 (λ i. one_if (test (r level f i)))

  pub uses-entered : uses frames new level test + one_if (test (old level table index)) ≡ uses frames old level test + one_if (test e)
  uses-entered =
      let inner = total-change 512 index (λ i. one_if (test (new level table i))) (λ i. one_if (test (old level table i))) within
      (λ i c other. ap (λ r. one_if (test r)) (entered.others level table i c (λ _ _ same. other same))) in
      let outer = total-change frames table (inside new) (inside old) low
      (λ f b other. total-same 512 _ _ (λ i c. ap (λ r. one_if (test r)) (entered.others level f i c (λ _ same _. absurd (other same))))) in
      let here : one_if (test (new level table index)) ≡ one_if (test e) = ap (λ r. one_if (test r)) entered.here in
      omega arith

  pub uses-other : (k : ℕ) → k ≢ level → uses frames new k test ≡ uses frames old k test
  uses-other k apart = total-same frames _ _ (λ f b. total-same 512 _ _ (λ i c. ap (λ r. one_if (test r)) (entered.others k f i c (λ same. absurd (apart same)))))
