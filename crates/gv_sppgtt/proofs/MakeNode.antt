-- A node is made: a zero page under a new pair of level and frame.
use Rattle.std.proofs.Common.{ℕ, ◌-◌, ◌%◌, ◌≤◌, ◌<◌, ◌≡◌, ◌≢◌, Bool, cond, List, Option, None, Some, length, get_or, set, replicate, get_or-set_same, get_or-set_other, refl, sym, ap, ◌∙◌, subst, arith, inl, inr, ⊎_elim, ◌⊎◌}
use Rattle.std.proofs.lemmas.Bool.{cases_eq, eq-eqb, ne_eqb}
use Rattle.std.proofs.lemmas.List.{length-set}
use Rattle.std.proofs.lemmas.Grind.{common_steps}
use Rattle.gv_types.specs.Memory.{zero_words, length-zero_words}
use Rattle.gv_entry.specs.declared.process.Process.{Process}
use Rattle.gv_entry.specs.declared.process.Process.TheVariants.{Absent, Table, Page, Bad, Large}
use Rattle.gv_gpu.specs.Device.{Device, added}
use Rattle.gv_guest.specs.Placed.{Placed, Hosts}
use Rattle.gv_nodes.specs.declared.nodes.Node.{Node}
use Rattle.gv_nodes.specs.NodeMap.{NodeMap}
use Rattle.gv_rmap.specs.Chains.{ReverseMap}
use Rattle.gv_shape.specs.Shadow.{Pages, Readings, Names, Local, split_level}
use Rattle.gv_shape.specs.Counts.{uses, one_if, above, names_node}
use Rattle.gv_shape.proofs.Totals.{total-same}
use Rattle.gv_nodes.specs.NodeOf.{node_of}
use Rattle.gv_sppgtt.specs.Sound.{page_of_node, parents_of_node, decode, reading_at, readings_in, pages_in, parents_in, flag, Boarded, Sound, IsWhole}
use Rattle.gv_sppgtt.specs.Grown.{Made}
use Rattle.gv_sppgtt.proofs.Entered.{decode-kept}
use Rattle.gv_gpu.specs.Part.{shadow_label}

zero_word : (i : ℕ) → get_or zero_words i 0 ≡ 0
unfolding zero_words
zero_word i = zero_in 512 i
  where
    zero_in : (n k : ℕ) → ◌≡◌ {A = ℕ} (get_or (replicate n 0) k 0) 0
    zero_in n k = grind (arith, common_steps)

-- more nodes: what a word names is still there
pub names-more : (placed : Placed) (pages after : Pages) (guarded : ℕ → Bool) (level : ℕ) (e : Process) (word : ℕ) → ((k f p : ℕ) → pages k f ≡ Some p → after k f ≡ Some p) → Names placed pages guarded level e word → Names placed after guarded level e word
names-more placed pages after guarded level Absent word kept h = h
names-more placed pages after guarded level (Table t) word kept h = (h.0, (h.1.0, (h.1.1.0, kept (level - 1) t h.1.1.0 h.1.1.1, h.1.1.2)))
names-more placed pages after guarded level (Large b w) word kept h = (h.0, (h.1.0, kept (split_level w) b h.1.0 h.1.1, h.1.2))
names-more placed pages after guarded level (Page t w) word kept h = h
names-more placed pages after guarded level Bad word kept h = h

module _ (d : Device) (placed : Placed) (nodes made : NodeMap) (chains : ReverseMap) (owners : List ℕ) (told : List Bool)
    (stands : Hosts d placed) (sound : Sound d placed nodes chains owners told)
    (level frame page : ℕ) (low : frame < length placed.pages) (one : 1 ≤ level) (four : level ≤ 6) (whole : IsWhole (length placed.pages) level frame)
    (absent : pages_in nodes level frame ≡ None) (below : page < 131072) (free : d.label page ≡ None)
    (same_frames : made.frames ≡ nodes.frames)
    (here : pages_in made level frame ≡ Some page) (parent : parents_in made level frame ≡ 1)
    (others : (k f : ℕ) → (k ≡ level → f ≡ frame → ⊥) → pages_in made k f ≡ pages_in nodes k f)
    (parents : (k f : ℕ) → (k ≡ level → f ≡ frame → ⊥) → parents_in made k f ≡ parents_in nodes k f) where
  abbrev pub after : Device
  after = added d page (shadow_label placed.guest)

  abbrev pub owned : List ℕ
  owned = set owners page frame

  abbrev old_readings : Readings
  old_readings = readings_in d.words owners (pages_in nodes)

  abbrev new_readings : Readings
  new_readings = readings_in after.words owned (pages_in made)

  some_or_none : {A : Type 0} (o : Option A) (P : Type 0) → ((x : A) → o ≡ Some x → P) → (o ≡ None → P) → P
  some_or_none (Some x) P some none = some x refl
  some_or_none None P some none = none refl

  which : (k f : ℕ) → ((k ≡ level) × (f ≡ frame)) ⊎ (k ≡ level → f ≡ frame → ⊥)
  which k f = ⊎_elim (λ a. ⊎_elim (λ b. inl (a, b)) (λ b. inr (λ _ e. b e)) (cases_eq f frame)) (λ a. inr (λ e _. a e)) (cases_eq k level)

  at_pair : (k f : ℕ) → (k ≡ level) × (f ≡ frame) → pages_in made k f ≡ Some page
  at_pair k f same = ap (λ x. pages_in made x f) same.0 ∙ ap (pages_in made level) same.1 ∙ here

  old_page : (k f p : ℕ) → pages_in nodes k f ≡ Some p → p ≢ page
  old_page k f p is = λ same. let a = sound.local.labelled k f p is in let b : d.label p ≡ None = ap d.label same ∙ free in let clash : Some (shadow_label placed.guest) ≡ None = sym a ∙ b in cc

  kept : (k f p : ℕ) → pages_in nodes k f ≡ Some p → pages_in made k f ≡ Some p
  kept k f p is = others k f (λ a b. let clash : Some p ≡ None = sym is ∙ ap (λ x. pages_in nodes x f) a ∙ ap (pages_in nodes level) b ∙ absent in cc) ∙ is

  words_other : (p : ℕ) → p ≢ page → after.words p ≡ d.words p
  words_other p other = ap (λ b. cond b zero_words (d.words p)) (ne_eqb p page other)

  words_here : after.words page ≡ zero_words
  words_here = ap (λ b. cond b zero_words (d.words page)) (eq-eqb page page refl)

  label_other : (p : ℕ) → p ≢ page → after.label p ≡ d.label p
  label_other p other = ap (λ b. cond b (Some (shadow_label placed.guest)) (d.label p)) (ne_eqb p page other)

  label_here : after.label page ≡ Some (shadow_label placed.guest)
  label_here = ap (λ b. cond b (Some (shadow_label placed.guest)) (d.label page)) (eq-eqb page page refl)

  owned_other : (q : ℕ) → q ≢ page → get_or owned q 0 ≡ get_or owners q 0
  owned_other q other = get_or-set_other owners page q frame 0 other

  owned_here : get_or owned page 0 ≡ frame
  owned_here = get_or-set_same owners page frame 0 (rw sound.owners_long below)

  at_frames : (h : ℕ) → h < length placed.pages → get_or owners (get_or placed.pages h 0) 0 ≡ h → get_or owned (get_or placed.pages h 0) 0 ≡ h
  at_frames h b is = owned_other (get_or placed.pages h 0) (λ same. let l = stands.labelled h b in let clash = sym l ∙ ap d.label same ∙ free in absurd (never clash)) ∙ is
    where
      never : {A : Type 0} {x : A} → Some x ≡ None → ⊥
      never e = cc

  at_nodes : (k f p : ℕ) → pages_in nodes k f ≡ Some p → get_or owned p 0 ≡ get_or owners p 0
  at_nodes k f p is = owned_other p (old_page k f p is)

  -- a word of an old node is as it was
  old_node : (k f p i : ℕ) → pages_in nodes k f ≡ Some p → i < 512 → new_readings k f i ≡ old_readings k f i
  old_node k f p i is small =
      let was : old_readings k f i ≡ decode owners k (get_or (d.words p) i 0) = ap (λ o. reading_at d.words owners k o i) is in
      ap (λ o. reading_at after.words owned k o i) (kept k f p is) ∙ ap (λ ws. decode owned k (get_or ws i 0)) (words_other p (old_page k f p is))
      ∙ decode-kept placed (pages_in nodes) (flag told) owners owned at_frames at_nodes k (get_or (d.words p) i 0) (old_readings k f i) (sound.local.names k f p i is small) (sym was)

  new_node : (i : ℕ) → new_readings level frame i ≡ Absent
  new_node i = ap (λ o. reading_at after.words owned level o i) here ∙ ap (λ ws. decode owned level (get_or ws i 0)) words_here ∙ ap (decode owned level) (zero_word i)

  other_readings : (k f i : ℕ) → i < 512 → (k ≡ level → f ≡ frame → ⊥) → new_readings k f i ≡ old_readings k f i
  other_readings k f i small apart = some_or_none (pages_in nodes k f) _ (λ p is. old_node k f p i is small)
      (λ none. ap (λ o. reading_at after.words owned k o i) (others k f apart ∙ none) ∙ sym (ap (λ o. reading_at d.words owners k o i) none))

  all_readings : (k f i : ℕ) → i < 512 → new_readings k f i ≡ old_readings k f i
  all_readings k f i small = ⊎_elim
      (λ same. ap (λ x. new_readings x f i) same.0 ∙ ap (λ x. new_readings level x i) same.1 ∙ new_node i
      ∙ sym (ap (λ x. old_readings x f i) same.0 ∙ ap (λ x. old_readings level x i) same.1 ∙ ap (λ o. reading_at d.words owners level o i) absent))
      (other_readings k f i small) (which k f)

  pub made-uses : (k : ℕ) (test : Process → Bool) → uses (length placed.pages) new_readings k test ≡ uses (length placed.pages) old_readings k test
  made-uses k test = total-same (length placed.pages) _ _ (λ f b. total-same 512 _ _ (λ i c. ap (λ r. one_if (test r)) (all_readings k f i c)))

  pub made-sketch : Made level frame page (record { pages = pages_in nodes; parents = parents_in nodes; readings = old_readings }) (record { pages = pages_in made; parents = parents_in made; readings = new_readings })
  made-sketch = record { here = here; pages = others; parent = parent; parents = parents; empty = λ i small. new_node i; readings = other_readings }

  page_at : (k f p : ℕ) → pages_in made k f ≡ Some p → ((k ≡ level) × ((f ≡ frame) × (p ≡ page))) ⊎ (pages_in nodes k f ≡ Some p)
  page_at k f p is = ⊎_elim
      (λ same. let e : Some p ≡ Some page = sym is ∙ at_pair k f same in let n : p ≡ page = cc in inl (same.0, (same.1, n)))
      (λ apart. inr (sym (others k f apart) ∙ is)) (which k f)

  boarded-made : Boarded after (length placed.pages) (pages_in made) owned
  boarded-made = record {
    low = λ k f p is. ⊎_elim (λ s. (subst (λ x. x < length placed.pages) (sym s.1.0) low, (subst (λ x. 1 ≤ x) (sym s.0) one, subst (λ x. x ≤ 6) (sym s.0) four))) (λ was. sound.boarded.low k f p was) (page_at k f p is);
    whole = λ k f p is. ⊎_elim (λ s. subst (λ x. IsWhole (length placed.pages) x f) (sym s.0) (subst (λ x. IsWhole (length placed.pages) level x) (sym s.1.0) whole)) (λ was. sound.boarded.whole k f p was) (page_at k f p is);
    long = λ k f p is. ⊎_elim (λ s. ap (λ q. length (after.words q)) s.1.1 ∙ ap length words_here ∙ length-zero_words) (λ was. ap length (words_other p (old_page k f p was)) ∙ sound.boarded.long k f p was) (page_at k f p is);
    below = λ k f p is. ⊎_elim (λ s. subst (λ x. x < 131072) (sym s.1.1) below) (λ was. sound.boarded.below k f p was) (page_at k f p is);
    apart = λ k f j g p a b. ⊎_elim
        (λ s. ⊎_elim (λ t. (s.0 ∙ sym t.0, s.1.0 ∙ sym t.1.0)) (λ was. absurd (old_page j g p was s.1.1)) (page_at j g p b))
        (λ was. ⊎_elim (λ t. absurd (old_page k f p was t.1.1)) (λ old. sound.boarded.apart k f j g p was old) (page_at j g p b))
        (page_at k f p a);
    owner = λ k f p is. ⊎_elim (λ s. ap (λ q. get_or owned q 0) s.1.1 ∙ owned_here ∙ sym s.1.0) (λ was. at_nodes k f p was ∙ sound.boarded.owner k f p was) (page_at k f p is);
  }

  local-made : Local after placed (pages_in made) (flag told) new_readings
  local-made = record {
    labelled = λ k f p is. ⊎_elim (λ s. ap after.label s.1.1 ∙ label_here) (λ was. label_other p (old_page k f p was) ∙ sound.local.labelled k f p was) (page_at k f p is);
    names = λ k f p i is small. ⊎_elim
        (λ s.
        let reading : new_readings k f i ≡ Absent = ap (λ x. new_readings x f i) s.0 ∙ ap (λ x. new_readings level x i) s.1.0 ∙ new_node i in
        let word : get_or (after.words p) i 0 ≡ 0 = ap (λ q. get_or (after.words q) i 0) s.1.1 ∙ ap (λ ws. get_or ws i 0) words_here ∙ zero_word i in
        subst (λ r. Names placed (pages_in made) (flag told) k r (get_or (after.words p) i 0)) (sym reading) (ap (λ n. n % 2) word))
        (λ was.
        subst (λ r. Names placed (pages_in made) (flag told) k r (get_or (after.words p) i 0)) (sym (old_node k f p i was small))
        (subst (λ ws. Names placed (pages_in made) (flag told) k (old_readings k f i) (get_or ws i 0)) (sym (words_other p (old_page k f p was)))
        (names-more placed (pages_in nodes) (pages_in made) (flag told) k (old_readings k f i) (get_or (d.words p) i 0) kept (sound.local.names k f p i was small))))
        (page_at k f p is);
  }

  pub sound-made : Sound after placed made chains owned told
  sound-made = record {
    frames = same_frames ∙ sound.frames;
    chains_long = sound.chains_long;
    told_long = sound.told_long;
    owners_long = length-set owners page frame ∙ sound.owners_long;
    boarded = boarded-made;
    local = local-made;
    chained = record {
      ordered = sound.chained.ordered;
      linked = λ k f p i h w leafy is small reads. ⊎_elim
          (λ s. let clash : Absent ≡ Page h w = sym (ap (λ x. new_readings k x i) s.1.0 ∙ ap (λ x. new_readings x frame i) s.0 ∙ new_node i) ∙ reads in cc)
          (λ was. sound.chained.linked k f p i h w leafy was small (sym (old_node k f p i was small) ∙ reads))
          (page_at k f p is);
      leaves = λ h q leaf at.
          let was = sound.chained.leaves h q leaf at in
          (was.0, was.1, (was.2.0, (kept was.0 was.1 leaf.page was.2.1.0, (was.2.1.1.0, (was.2.1.1.1.0, old_node was.0 was.1 leaf.page leaf.index was.2.1.0 was.2.1.1.0 ∙ was.2.1.1.1.1)))));
    };
    counted = λ k f some.
        let u = made-uses (above k) (names_node k f) in
        let c = sound.counted k f some in
        ⊎_elim
        (λ s. let p : parents_in made k f ≡ 1 = ap (λ x. parents_in made x f) s.0 ∙ ap (parents_in made level) s.1 ∙ parent in
        let z : parents_in nodes k f ≡ 0 = ap (λ x. parents_in nodes x f) s.0 ∙ ap (parents_in nodes level) s.1 ∙ no_parents (node_of nodes level frame) absent in
        omega arith)
        (λ apart. let p = parents k f apart in omega arith)
        (which k f);
  }
    where
      no_parents : (o : Option Node) → page_of_node o ≡ None → parents_of_node o ≡ 0
      no_parents None e = refl
      no_parents (Some n) e = cc
