-- A frame becomes guarded or unguarded: its leaves are rewritten one by one. In between each word has the
-- guards as they are at its own key.
use Rattle.std.proofs.Common.{ℕ, ◌+◌, ◌*◌, ◌/◌, ◌%◌, ◌^◌, ◌<◌, ◌≡◌, ◌≢◌, Bool, true, false, ◌&&◌, eqb, cond, List, Some, get_or, set, get_or-set_same, get_or-set_other, refl, sym, ap, ◌∙◌, subst, arith, inl, inr, ⊎_elim, ◌⊎◌}
use Rattle.std.proofs.lemmas.Bool.{cases_eq, eq-eqb, ne_eqb}
use Rattle.gv_entry.specs.declared.process.Process.{Process}
use Rattle.gv_entry.specs.declared.process.Process.TheVariants.{Absent, Table, Page, Bad, Large}
use Rattle.gv_gpu.specs.Device.{Device, poked}
use Rattle.gv_guest.specs.Placed.{Placed}
use Rattle.gv_shape.specs.Shadow.{Pages, Readings, Names, leaf_word, has_leaves}
use Rattle.gv_sppgtt.specs.Sound.{decode, reading_at, readings_in, Boarded}
use Rattle.gv_sppgtt.proofs.Decoded.{decode-odd, leaf-odd, leaf-page, leaf-wanted, decode-leaf}
use Rattle.gv_gpu.specs.Part.{shadow_label}

-- the guards at each key
abbrev pub Guards : Type 0
Guards = ℕ → ℕ → Bool

pub record LocalBy (d : Device) (placed : Placed) (pages : Pages) (guards : Guards) (readings : Readings) : Type 0 where
  pub labelled : (level frame p : ℕ) → pages level frame ≡ Some p → d.label p ≡ Some (shadow_label placed.guest)
  pub names : (level frame p i : ℕ) → pages level frame ≡ Some p → i < 512 → Names placed pages (guards (p * 2 ^ 16 + i)) level (readings level frame i) (get_or (d.words p) i 0)

-- the guards, but for one frame at one key
abbrev pub with_guard : Guards → ℕ → ℕ → Bool → Guards
with_guard guards q h new key frame = cond (eqb key q && eqb frame h) new (guards key frame)

-- other guards say the same of a word that maps another frame
pub names-guards : (placed : Placed) (pages : Pages) (g k : ℕ → Bool) (level : ℕ) (e : Process) (word : ℕ) → ((h : ℕ) (w : Bool) → e ≡ Page h w → g h ≡ k h) → Names placed pages g level e word → Names placed pages k level e word
names-guards placed pages g k level Absent word same n = n
names-guards placed pages g k level (Table t) word same n = n
names-guards placed pages g k level (Large b w) word same n = n
names-guards placed pages g k level (Page t w) word same n = (n.0, n.1, n.2 ∙ ap (leaf_word (get_or placed.pages t 0) w) (same t w refl))
names-guards placed pages g k level Bad word same n = n

module _ (d : Device) (placed : Placed) (frames : ℕ) (pages : Pages) (guards : Guards) (owners : List ℕ) (boarded : Boarded d frames pages owners) (local : LocalBy d placed pages guards (readings_in d.words owners pages))
    (level : ℕ) (leafy : has_leaves level ≡ true) (table page index h : ℕ) (w new : Bool) (is : pages level table ≡ Some page) (within : index < 512) (reads : readings_in d.words owners pages level table index ≡ Page h w) where
  abbrev value : ℕ
  value = leaf_word (get_or placed.pages h 0) w new

  abbrev now : Device
  now = poked d page index value

  form : Names placed pages (guards (page * 2 ^ 16 + index)) level (Page h w) (get_or (d.words page) index 0)
  form = subst (λ r. Names placed pages (guards (page * 2 ^ 16 + index)) level r (get_or (d.words page) index 0)) reads (local.names level table page index is within)

  -- the host page is known to be that frame's
  owner : get_or owners (get_or placed.pages h 0) 0 ≡ h
  owner =
      let old = get_or (d.words page) index 0 in
      let odd : old % 2 ≡ 1 = ap (λ n. n % 2) form.2 ∙ leaf-odd (get_or placed.pages h 0) w (guards (page * 2 ^ 16 + index) h) in
      let number : old / 4096 ≡ get_or placed.pages h 0 = ap (λ n. n / 4096) form.2 ∙ leaf-page (get_or placed.pages h 0) w (guards (page * 2 ^ 16 + index) h) in
      let decoded : Page (get_or owners (old / 4096) 0) (eqb (old / 4 % 2) 1) ≡ Page h w = sym (decode-leaf owners level old leafy ∙ decode-odd owners old odd) ∙ sym (ap (λ o. reading_at d.words owners level o index) is) ∙ reads in
      ap (λ n. get_or owners n 0) (sym number) ∙ same _ _ _ _ decoded
    where
      same : (a b : ℕ) (x y : Bool) → Page a x ≡ Page b y → a ≡ b
      same a b x y e = cc

  stands_for : decode owners level value ≡ Page h w
  stands_for =
      let p = get_or placed.pages h 0 in
      decode-leaf owners level value leafy ∙ decode-odd owners value (leaf-odd p w new) ∙ ap (λ n. Page (get_or owners n 0) (eqb (value / 4 % 2) 1)) (leaf-page p w new) ∙ ap (λ f. Page f (eqb (value / 4 % 2) 1)) owner ∙ ap (λ b. Page h b) (leaf-wanted p w new)

  at_page : now.words page ≡ set (d.words page) index value
  at_page = ap (λ b. cond b (set (d.words page) index value) (d.words page)) (eq-eqb page page refl)

  word_here : get_or (now.words page) index 0 ≡ value
  word_here = ap (λ ws. get_or ws index 0) at_page ∙ get_or-set_same (d.words page) index value 0 (rw (boarded.long level table page is) within)

  word_other : (p i : ℕ) → (p ≡ page → i ≡ index → ⊥) → get_or (now.words p) i 0 ≡ get_or (d.words p) i 0
  word_other p i apart = ⊎_elim
      (λ same. ap (λ q. get_or (now.words q) i 0) same ∙ ap (λ ws. get_or ws i 0) at_page ∙ get_or-set_other (d.words page) index i value 0 (apart same) ∙ ap (λ q. get_or (d.words q) i 0) (sym same))
      (λ other. ap (λ b. get_or (cond b (set (d.words page) index value) (d.words p)) i 0) (ne_eqb p page other))
      (cases_eq p page)

  which : (p i : ℕ) → ((p ≡ page) × (i ≡ index)) ⊎ (p ≡ page → i ≡ index → ⊥)
  which p i = ⊎_elim (λ a. ⊎_elim (λ b. inl (a, b)) (λ b. inr (λ _ e. b e)) (cases_eq i index)) (λ a. inr (λ e _. a e)) (cases_eq p page)

  pair : (k f p : ℕ) → pages k f ≡ Some p → p ≡ page → (k ≡ level) × (f ≡ table)
  pair k f p there same = boarded.apart k f level table page (there ∙ ap (λ n. Some n) same) is

  -- no word stands for anything else
  pub flipped-readings : (k f p i : ℕ) → pages k f ≡ Some p → readings_in now.words owners pages k f i ≡ readings_in d.words owners pages k f i
  flipped-readings k f p i there = ⊎_elim
      (λ same.
      let at = pair k f p there same.0 in
      ap (λ o. reading_at now.words owners k o i) (there ∙ ap (λ n. Some n) same.0) ∙ ap (λ l. decode owners l (get_or (now.words page) i 0)) at.0 ∙ ap (λ j. decode owners level (get_or (now.words page) j 0)) same.1 ∙ ap (decode owners level) word_here ∙ stands_for
      ∙ sym (ap (λ x. readings_in d.words owners pages x f i) at.0 ∙ ap (λ x. readings_in d.words owners pages level x i) at.1 ∙ ap (readings_in d.words owners pages level table) same.1 ∙ reads))
      (λ apart. ap (λ o. reading_at now.words owners k o i) there ∙ ap (decode owners k) (word_other p i apart) ∙ sym (ap (λ o. reading_at d.words owners k o i) there))
      (which p i)

  pub local-flipped : LocalBy now placed pages (with_guard guards (page * 2 ^ 16 + index) h new) (readings_in now.words owners pages)
  local-flipped = record {
    labelled = local.labelled;
    names = λ k f p i there small. subst (λ r. Names placed pages (with_guard guards (page * 2 ^ 16 + index) h new (p * 2 ^ 16 + i)) k r (get_or (now.words p) i 0)) (sym (flipped-readings k f p i there)) (⊎_elim
        (λ same.
        let at = pair k f p there same.0 in
        let reading : readings_in d.words owners pages k f i ≡ Page h w = ap (λ x. readings_in d.words owners pages x f i) at.0 ∙ ap (λ x. readings_in d.words owners pages level x i) at.1 ∙ ap (readings_in d.words owners pages level table) same.1 ∙ reads in
        let word : get_or (now.words p) i 0 ≡ value = ap (λ q. get_or (now.words q) i 0) same.0 ∙ ap (λ j. get_or (now.words page) j 0) same.1 ∙ word_here in
        let key : p * 2 ^ 16 + i ≡ page * 2 ^ 16 + index = ap (λ q. q * 2 ^ 16 + i) same.0 ∙ ap (λ j. page * 2 ^ 16 + j) same.1 in
        let guard : with_guard guards (page * 2 ^ 16 + index) h new (p * 2 ^ 16 + i) h ≡ new = rw (eq-eqb _ _ key, eq-eqb h h refl) refl in
        subst (λ r. Names placed pages (with_guard guards (page * 2 ^ 16 + index) h new (p * 2 ^ 16 + i)) k r (get_or (now.words p) i 0)) (sym reading)
        (ap has_leaves at.0 ∙ leafy, form.1, word ∙ ap (leaf_word (get_or placed.pages h 0) w) (sym guard)))
        (λ apart.
        let far : p * 2 ^ 16 + i ≢ page * 2 ^ 16 + index = λ e. apart (omega arith) (omega arith) in
        subst (λ x. Names placed pages (with_guard guards (page * 2 ^ 16 + index) h new (p * 2 ^ 16 + i)) k (readings_in d.words owners pages k f i) x) (sym (word_other p i apart))
        (names-guards placed pages (guards (p * 2 ^ 16 + i)) (with_guard guards (page * 2 ^ 16 + index) h new (p * 2 ^ 16 + i)) k (readings_in d.words owners pages k f i) (get_or (d.words p) i 0)
        (λ x v e. ap (λ b. cond (b && eqb x h) new (guards (p * 2 ^ 16 + i) x)) (sym (ne_eqb (p * 2 ^ 16 + i) (page * 2 ^ 16 + index) far)))
        (local.names k f p i there small)))
        (which p i));
  }

  -- a leaf that isn't writable stands for the same under any guard
  unwritable : (G K : ℕ → Bool) (k word : ℕ) → Names placed pages G k (Page h false) word → Names placed pages K k (Page h false) word
  unwritable G K k word n = (n.0, n.1, n.2)

  pub local-passed : w ≡ false → LocalBy d placed pages (with_guard guards (page * 2 ^ 16 + index) h new) (readings_in d.words owners pages)
  local-passed shut = record {
    labelled = local.labelled;
    names = λ k f p i there small. ⊎_elim
        (λ same.
        let at = pair k f p there same.0 in
        let reading : readings_in d.words owners pages k f i ≡ Page h false = ap (λ x. readings_in d.words owners pages x f i) at.0 ∙ ap (λ x. readings_in d.words owners pages level x i) at.1 ∙ ap (readings_in d.words owners pages level table) same.1 ∙ reads ∙ ap (λ b. Page h b) shut in
        subst (λ r. Names placed pages (with_guard guards (page * 2 ^ 16 + index) h new (p * 2 ^ 16 + i)) k r (get_or (d.words p) i 0)) (sym reading)
        (unwritable (guards (p * 2 ^ 16 + i)) (with_guard guards (page * 2 ^ 16 + index) h new (p * 2 ^ 16 + i)) k (get_or (d.words p) i 0)
        (subst (λ r. Names placed pages (guards (p * 2 ^ 16 + i)) k r (get_or (d.words p) i 0)) reading (local.names k f p i there small))))
        (λ apart.
        let far : p * 2 ^ 16 + i ≢ page * 2 ^ 16 + index = λ e. apart (omega arith) (omega arith) in
        names-guards placed pages (guards (p * 2 ^ 16 + i)) (with_guard guards (page * 2 ^ 16 + index) h new (p * 2 ^ 16 + i)) k (readings_in d.words owners pages k f i) (get_or (d.words p) i 0)
        (λ x v e. ap (λ b. cond (b && eqb x h) new (guards (p * 2 ^ 16 + i) x)) (sym (ne_eqb (p * 2 ^ 16 + i) (page * 2 ^ 16 + index) far)))
        (local.names k f p i there small))
        (which p i);
  }
