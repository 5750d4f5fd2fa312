-- A node goes: all of its words are absent, and no word names it.
use Rattle.std.proofs.Common.{ℕ, ◌-◌, ◌≤◌, ◌<◌, ◌≡◌, ◌≢◌, Bool, true, false, cond, List, [], Option, None, Some, length, get_or, refl, sym, ap, ◌∙◌, subst, arith, inl, inr, ⊎_elim, ◌⊎◌}
use Rattle.std.proofs.lemmas.Bool.{cases_eq, eq-eqb, ne_eqb}
use Rattle.gv_entry.specs.declared.process.Process.{Process}
use Rattle.gv_entry.specs.declared.process.Process.TheVariants.{Absent, Table, Page, Bad, Large}
use Rattle.gv_gpu.specs.Device.{Device, released}
use Rattle.gv_gpu.specs.Part.{outside, is_shadow_of, shadow_label}
use Rattle.gv_gpu.proofs.Changed.{outside-released}
use Rattle.gv_guest.specs.Placed.{Placed}
use Rattle.gv_nodes.specs.NodeMap.{NodeMap}
use Rattle.gv_rmap.specs.Chains.{ReverseMap}
use Rattle.gv_shape.specs.Shadow.{Pages, Readings, Names}
use Rattle.gv_shape.specs.Counts.{uses, one_if, namings, naming, above, names_node}
use Rattle.gv_shape.proofs.Totals.{total-same}
use Rattle.gv_sppgtt.specs.Sound.{decode, reading_at, readings_in, pages_in, parents_in, flag, Sound}
use Rattle.gv_sppgtt.specs.State.{shadow_part}
use Rattle.gv_sppgtt.proofs.PutLeaf.{uses-at}
use Rattle.gv_shape.proofs.Levels.{naming-low, above-low, names-it}

names-less : (placed : Placed) (pages after : Pages) (guarded : ℕ → Bool) (level : ℕ) (e : Process) (word : ℕ) → ((lower h p : ℕ) → e ≡ naming lower h → above lower ≡ level → 1 ≤ lower → pages lower h ≡ Some p → after lower h ≡ Some p) → Names placed pages guarded level e word → Names placed after guarded level e word
names-less placed pages after guarded level Absent word kept h = h
names-less placed pages after guarded level (Table t) word kept h =
    (h.0, (h.1.0, (h.1.1.0, kept (level - 1) t h.1.1.0 (sym (naming-low (level - 1) t (omega (arith, h.1.0)))) (above-low (level - 1) (omega (arith, h.1.0)) ∙ omega (arith, h.0)) (omega (arith, h.0)) h.1.1.1, h.1.1.2)))
names-less placed pages after guarded level (Large b true) word kept h = (h.0, (h.1.0, kept 5 b h.1.0 refl (sym h.0) (omega arith) h.1.1, h.1.2))
names-less placed pages after guarded level (Large b false) word kept h = (h.0, (h.1.0, kept 6 b h.1.0 refl (sym h.0) (omega arith) h.1.1, h.1.2))
names-less placed pages after guarded level (Page t w) word kept h = h
names-less placed pages after guarded level Bad word kept h = h

module _ (d : Device) (placed : Placed) (nodes gone : NodeMap) (chains : ReverseMap) (owners : List ℕ) (told : List Bool) (sound : Sound d placed nodes chains owners told)
    (level frame page : ℕ) (node : pages_in nodes level frame ≡ Some page)
    (empty : (i : ℕ) → i < 512 → readings_in d.words owners (pages_in nodes) level frame i ≡ Absent)
    (unnamed : namings (length placed.pages) (readings_in d.words owners (pages_in nodes)) level frame ≡ 0)
    (same_frames : gone.frames ≡ nodes.frames) (here : pages_in gone level frame ≡ None)
    (others : (k f : ℕ) → (k ≡ level → f ≡ frame → ⊥) → pages_in gone k f ≡ pages_in nodes k f)
    (parents : (k f : ℕ) → (k ≡ level → f ≡ frame → ⊥) → parents_in gone k f ≡ parents_in nodes k f) where
  abbrev pub after : Device
  after = released d page

  abbrev old_readings : Readings
  old_readings = readings_in d.words owners (pages_in nodes)

  abbrev new_readings : Readings
  new_readings = readings_in after.words owners (pages_in gone)

  cases : (k f : ℕ) → ((k ≡ level) × (f ≡ frame)) ⊎ (k ≡ level → f ≡ frame → ⊥)
  cases k f = ⊎_elim (λ x. ⊎_elim (λ y. inl (x, y)) (λ y. inr (λ _ e. y e)) (cases_eq f frame)) (λ x. inr (λ e _. x e)) (cases_eq k level)

  some_or_none : {A : Type 0} (o : Option A) (P : Type 0) → ((x : A) → o ≡ Some x → P) → (o ≡ None → P) → P
  some_or_none (Some x) P some none = some x refl
  some_or_none None P some none = none refl

  gone_at : (k f : ℕ) → (k ≡ level) × (f ≡ frame) → pages_in gone k f ≡ None
  gone_at k f same = ap (λ x. pages_in gone x f) same.0 ∙ ap (pages_in gone level) same.1 ∙ here

  apart_of : (k f p : ℕ) → pages_in gone k f ≡ Some p → k ≡ level → f ≡ frame → ⊥
  apart_of k f p is x y = let clash : Some p ≡ None = sym is ∙ gone_at k f (x, y) in cc

  was : (k f p : ℕ) → pages_in gone k f ≡ Some p → pages_in nodes k f ≡ Some p
  was k f p is = sym (others k f (apart_of k f p is)) ∙ is

  other_page : (k f p : ℕ) → pages_in gone k f ≡ Some p → p ≢ page
  other_page k f p is same = let pair = sound.boarded.apart k f level frame page (was k f p is ∙ ap (λ n. Some n) same) node in apart_of k f p is pair.0 pair.1

  words_other : (p : ℕ) → p ≢ page → after.words p ≡ d.words p
  words_other p other = ap (λ b. cond b [] (d.words p)) (ne_eqb p page other)

  label_other : (p : ℕ) → p ≢ page → after.label p ≡ d.label p
  label_other p other = ap (λ b. cond b None (d.label p)) (ne_eqb p page other)

  node_reading : (k f p i : ℕ) → pages_in gone k f ≡ Some p → new_readings k f i ≡ old_readings k f i
  node_reading k f p i is =
      ap (λ o. reading_at after.words owners k o i) is ∙ ap (λ ws. decode owners k (get_or ws i 0)) (words_other p (other_page k f p is)) ∙ sym (ap (λ o. reading_at d.words owners k o i) (was k f p is))

  pub all-same : (k f i : ℕ) → i < 512 → new_readings k f i ≡ old_readings k f i
  all-same k f i small = some_or_none (pages_in gone k f) _ (λ p is. node_reading k f p i is)
      (λ none. ⊎_elim
      (λ same. ap (λ o. reading_at after.words owners k o i) none ∙ sym (ap (λ x. old_readings x f i) same.0 ∙ ap (λ x. old_readings level x i) same.1 ∙ empty i small))
      (λ apart. ap (λ o. reading_at after.words owners k o i) none ∙ sym (ap (λ o. reading_at d.words owners k o i) (sym (others k f apart) ∙ none)))
      (cases k f))

  pub gone-uses : (k : ℕ) (test : Process → Bool) → uses (length placed.pages) new_readings k test ≡ uses (length placed.pages) old_readings k test
  gone-uses k test = total-same (length placed.pages) _ _ (λ f b. total-same 512 _ _ (λ i c. ap (λ r. one_if (test r)) (all-same k f i c)))

  -- what a word names is still there
  still : (k f p i lower h q : ℕ) → pages_in gone k f ≡ Some p → i < 512 → old_readings k f i ≡ naming lower h → above lower ≡ k → 1 ≤ lower → pages_in nodes lower h ≡ Some q → pages_in gone lower h ≡ Some q
  still k f p i lower h q is small reads up one there = others lower h
      (λ x y.
      let low = (sound.boarded.low k f p (was k f p is)).0 in
      let named : names_node level frame (old_readings k f i) ≡ true = ap (names_node level frame) (reads ∙ ap (λ z. naming z h) x ∙ ap (naming level) y) ∙ names-it level frame (sound.boarded.low level frame page node).1.1 in
      let used = uses-at (length placed.pages) old_readings k f i (names_node level frame) low small named in
      let used' = subst (λ l. 1 ≤ uses (length placed.pages) old_readings l (names_node level frame)) (sym up ∙ ap above x) used in
      omega arith) ∙ there

  pub sound-gone : Sound after placed gone chains owners told
  sound-gone = record {
    frames = same_frames ∙ sound.frames;
    chains_long = sound.chains_long;
    told_long = sound.told_long;
    owners_long = sound.owners_long;
    boarded = record {
      low = λ k f p is. sound.boarded.low k f p (was k f p is);
      whole = λ k f p is. sound.boarded.whole k f p (was k f p is);
      long = λ k f p is. ap length (words_other p (other_page k f p is)) ∙ sound.boarded.long k f p (was k f p is);
      below = λ k f p is. sound.boarded.below k f p (was k f p is);
      apart = λ k f j g p a b. sound.boarded.apart k f j g p (was k f p a) (was j g p b);
      owner = λ k f p is. sound.boarded.owner k f p (was k f p is);
    };
    local = record {
      labelled = λ k f p is. label_other p (other_page k f p is) ∙ sound.local.labelled k f p (was k f p is);
      names = λ k f p i is small.
          subst (λ r. Names placed (pages_in gone) (flag told) k r (get_or (after.words p) i 0)) (sym (node_reading k f p i is))
          (subst (λ ws. Names placed (pages_in gone) (flag told) k (old_readings k f i) (get_or ws i 0)) (sym (words_other p (other_page k f p is)))
          (names-less placed (pages_in nodes) (pages_in gone) (flag told) k (old_readings k f i) (get_or (d.words p) i 0) (λ lower h q e up one there. still k f p i lower h q is small e up one there) (sound.local.names k f p i (was k f p is) small)));
    };
    chained = record {
      ordered = sound.chained.ordered;
      linked = λ k f p i h w leafy is small reads. sound.chained.linked k f p i h w leafy (was k f p is) small (sym (node_reading k f p i is) ∙ reads);
      leaves = λ h q leaf at.
          let old = sound.chained.leaves h q leaf at in
          let k = old.0 in
          let f = old.1 in
          let small = old.2.1.1.0 in
          let there : pages_in gone k f ≡ Some leaf.page = others k f (λ x y.
          let clash : Absent ≡ Page h leaf.writable = sym (ap (λ z. old_readings z f leaf.index) x ∙ ap (λ z. old_readings level z leaf.index) y ∙ empty leaf.index small) ∙ old.2.1.1.1.1 in cc) ∙ old.2.1.0 in
          (k, f, (old.2.0, (there, (small, (old.2.1.1.1.0, node_reading k f leaf.page leaf.index there ∙ old.2.1.1.1.1)))));
    };
    counted = λ k f some.
        let u = gone-uses (above k) (names_node k f) in
        let c = sound.counted k f some in
        ⊎_elim
        (λ same. let z : namings (length placed.pages) old_readings k f ≡ 0 = ap (λ x. namings (length placed.pages) old_readings x f) same.0 ∙ ap (λ x. namings (length placed.pages) old_readings level x) same.1 ∙ unnamed in omega arith)
        (λ apart. let p = parents k f apart in omega arith)
        (cases k f);
  }

  pub outside-gone : outside (shadow_part placed.guest) after ≡ outside (shadow_part placed.guest) d
  outside-gone = outside-released (shadow_part placed.guest) d page (shadow_label placed.guest) refl (own placed.guest) (sound.local.labelled level frame page node)
    where
      own : (g : ℕ) → is_shadow_of g (Some (shadow_label g)) ≡ true
      own g = rw (eq-eqb g g refl) refl
