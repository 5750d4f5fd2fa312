-- A frame goes into another host page.
use Rattle.std.proofs.Common.{◌≡◌, ◌≢◌, ℕ, ◌<◌, ◌+◌, ◌-◌, List, [], ◌∷◌, zero, suc, true, eqb, Some, None, cond, length, get_or, set, sym, ap, ◌∙◌, refl, subst, ⊎_elim, arith}
use Rattle.std.proofs.lemmas.Bool.{cases_eq, eq-eqb}
use Rattle.std.proofs.lemmas.List.{same_lists, get_or-map, length-map, length-set, get_or-set_same, get_or-set_other}
use Rattle.std.proofs.lemmas.List.Folds.{list_any_at}
use Rattle.std.proofs.lemmas.Grind.{common_steps}
use Rattle.gv_types.specs.Maps.{put}
use Rattle.gv_types.specs.Memory.{zero_words}
use Rattle.gv_gpu.specs.Change.{ChangesOnly}
use Rattle.gv_gpu.specs.Device.{Device, added, released}
use Rattle.gv_gpu.specs.Part.{outside, frames_part, is_frame_of}
use Rattle.gv_gpu.proofs.Changed.{outside-added, outside-released}
use Rattle.gv_guest.specs.Move.{CopiesPage}
use Rattle.gv_guest.specs.Placed.{Placed, Hosts, memory_in, frame_label, is_among}
use Rattle.gv_guest.proofs.Written.{own_frame}

among_set : (xs : List ℕ) (k n page : ℕ) → n ≢ get_or xs k 0 → is_among xs n ≡ true → is_among (set xs k page) n ≡ true
among_set [] k n page differ h = h
among_set (x ∷ xs) zero n page differ h = grind (arith, common_steps)
among_set (x ∷ xs) (suc k) n page differ h = let rest = among_set xs k n page differ in grind (arith, common_steps)

module _ (d e : Device) (placed : Placed) (frame page old : ℕ) (stands : Hosts d placed) (within : frame < length placed.pages) (was : old ≡ get_or placed.pages frame 0) (free : d.label page ≡ None) where
  abbrev moved : Placed
  moved = record placed { pages = set placed.pages frame page }

  old_label : d.label old ≡ Some (frame_label placed.guest)
  old_label = ap d.label was ∙ stands.labelled frame within

  pub apart-old : old ≢ page
  apart-old same = let l = old_label in cc

  other_page : (k : ℕ) → k < length placed.pages → get_or placed.pages k 0 ≢ page
  other_page k h = λ same. let l = stands.labelled k h in cc

  other_old : (k : ℕ) → k < length placed.pages → k ≢ frame → get_or placed.pages k 0 ≢ old
  other_old k h differ = λ same. differ (stands.apart k frame h within (same ∙ was))

  at_frame : get_or moved.pages frame 0 ≡ page
  at_frame = get_or-set_same placed.pages frame page 0 within

  at_other : (k : ℕ) → k ≢ frame → get_or moved.pages k 0 ≡ get_or placed.pages k 0
  at_other k differ = get_or-set_other placed.pages frame k page 0 differ

  shorter : (k : ℕ) → k < length moved.pages → k < length placed.pages
  shorter k h = rw length-set at h

  module _ (low : page < 131072) (new_label : e.label page ≡ Some (frame_label placed.guest)) (no_label : e.label old ≡ None) (labels : (q : ℕ) → q ≢ page → q ≢ old → e.label q ≡ d.label q) (new_words : e.words page ≡ d.words old) (words : (q : ℕ) → q ≢ page → q ≢ old → e.words q ≡ d.words q) where
    each : (P : ℕ → Type 0) → P page → ((k : ℕ) → k < length placed.pages → k ≢ frame → P (get_or placed.pages k 0)) → (k : ℕ) → k < length moved.pages → P (get_or moved.pages k 0)
    each P here others k h = ⊎_elim
        (λ same. subst P (sym (ap (λ i. get_or moved.pages i 0) same ∙ at_frame)) here)
        (λ differ. subst P (sym (at_other k differ)) (others k (shorter k h) differ))
        (cases_eq k frame)

    kept_label : (k : ℕ) → k < length placed.pages → k ≢ frame → e.label (get_or placed.pages k 0) ≡ Some (frame_label placed.guest)
    kept_label k h differ = labels (get_or placed.pages k 0) (other_page k h) (other_old k h differ) ∙ stands.labelled k h

    kept_words : (k : ℕ) → k < length placed.pages → k ≢ frame → e.words (get_or placed.pages k 0) ≡ d.words (get_or placed.pages k 0)
    kept_words k h differ = words (get_or placed.pages k 0) (other_page k h) (other_old k h differ)

    long_page : length (e.words page) ≡ 512
    long_page = ap length new_words ∙ ap (λ q. length (d.words q)) was ∙ stands.long frame within

    apart : (j k : ℕ) → j < length moved.pages → k < length moved.pages → get_or moved.pages j 0 ≡ get_or moved.pages k 0 → j ≡ k
    apart j k hj hk same = ⊎_elim
        (λ j_is. ⊎_elim
        (λ k_is. j_is ∙ sym k_is)
        (λ k_other. absurd (other_page k (shorter k hk) (sym (at_other k k_other) ∙ sym same ∙ ap (λ i. get_or moved.pages i 0) j_is ∙ at_frame)))
        (cases_eq k frame))
        (λ j_other. ⊎_elim
        (λ k_is. absurd (other_page j (shorter j hj) (sym (at_other j j_other) ∙ same ∙ ap (λ i. get_or moved.pages i 0) k_is ∙ at_frame)))
        (λ k_other. stands.apart j k (shorter j hj) (shorter k hk) (sym (at_other j j_other) ∙ same ∙ at_other k k_other))
        (cases_eq k frame))
        (cases_eq j frame)

    is_there : is_among moved.pages page ≡ true
    is_there =
        let there : frame < length moved.pages = rw length-set within in
        list_any_at (λ p. eqb p page) moved.pages frame 0 there (eq-eqb (get_or moved.pages frame 0) page at_frame)

    all : (n : ℕ) → e.label n ≡ Some (frame_label placed.guest) → is_among moved.pages n ≡ true
    all n h = ⊎_elim
        (λ same. subst (λ q. is_among moved.pages q ≡ true) (sym same) is_there)
        (λ differ.
        let live : n ≢ old = λ same. (let gone : e.label n ≡ None = ap e.label same ∙ no_label in cc) in
        among_set placed.pages frame n page (λ same. live (same ∙ sym was)) (stands.all n (sym (labels n differ live) ∙ h)))
        (cases_eq n page)

    pub stands-moved : Hosts e moved
    stands-moved = record {
      labelled = each (λ q. e.label q ≡ Some (frame_label placed.guest)) new_label kept_label;
      long = each (λ q. length (e.words q) ≡ 512) long_page (λ k h differ. ap length (kept_words k h differ) ∙ stands.long k h);
      below = each (λ q. q < 131072) low (λ k h differ. stands.below k h);
      apart = apart;
      all = all;
    }

    pub memory-moved : memory_in e moved ≡ memory_in d placed
    memory-moved = same_lists _ _ (simp (length-map, length-set) refl) (λ k x h.
        let hk : k < length moved.pages = rw length-map at h in
        get_or-map e.words moved.pages k 0 x hk ∙ at k hk ∙ sym (get_or-map d.words placed.pages k 0 x (shorter k hk)))
      where
        at : (k : ℕ) → k < length moved.pages → e.words (get_or moved.pages k 0) ≡ d.words (get_or placed.pages k 0)
        at k h = ⊎_elim
            (λ same. ap (λ i. e.words (get_or moved.pages i 0)) same ∙ ap e.words at_frame ∙ new_words ∙ ap d.words was ∙ ap (λ i. d.words (get_or placed.pages i 0)) (sym same))
            (λ differ. ap e.words (at_other k differ) ∙ kept_words k (shorter k h) differ)
            (cases_eq k frame)

-- The new page is added, gets the words, and the old page is released.
module _ (d b c e : Device) (placed : Placed) (frame page old : ℕ) (stands : Hosts d placed) (within : frame < length placed.pages) (was : old ≡ get_or placed.pages frame 0) (free : d.label page ≡ None) (empty : d.words page ≡ []) (low : page < 131072) (add : b ≡ added d page (frame_label placed.guest)) (copy : CopiesPage b c old page) (release : e ≡ released c old) where
  differ : old ≢ page
  differ = apart-old d e placed frame page old stands within was free

  labels : e.label ≡ put (put d.label page (Some (frame_label placed.guest))) old None
  labels = ap (λ (x : Device). x.label) release ∙ ap (λ (x : Device). put x.label old None) copy.words ∙ ap (λ (x : Device). put x.label old None) add

  words : e.words ≡ put (put (put d.words page zero_words) page (put d.words page zero_words old)) old []
  words = ap (λ (x : Device). x.words) release ∙ ap (λ (x : Device). put x.words old []) copy.words ∙ ap (λ (x : Device). put (put x.words page (x.words old)) old []) add

  new_label : e.label page ≡ Some (frame_label placed.guest)
  new_label = ap (λ f. f page) labels ∙ (grind (arith, common_steps))

  no_label : e.label old ≡ None
  no_label = ap (λ f. f old) labels ∙ (grind (arith, common_steps))

  same_labels : (q : ℕ) → q ≢ page → q ≢ old → e.label q ≡ d.label q
  same_labels q first second = ap (λ f. f q) labels ∙ (grind (arith, common_steps))

  new_words : e.words page ≡ d.words old
  new_words = ap (λ f. f page) words ∙ (grind (arith, common_steps))

  same_words : (q : ℕ) → q ≢ page → q ≢ old → e.words q ≡ d.words q
  same_words q first second = ap (λ f. f q) words ∙ (grind (arith, common_steps))

  pub stands-after : Hosts e (record placed { pages = set placed.pages frame page })
  stands-after = stands-moved d e placed frame page old stands within was free low new_label no_label same_labels new_words same_words

  pub memory-after : memory_in e (record placed { pages = set placed.pages frame page }) ≡ memory_in d placed
  memory-after = memory-moved d e placed frame page old stands within was free low new_label no_label same_labels new_words same_words

  pub changes-after : ChangesOnly (frames_part placed.guest) 512 d e
  changes-after = record {
    outside = outside_released ∙ outside_copied ∙ outside_added;
    live = ap (λ (x : Device). x.live) release ∙ ap (λ (x : Device). x.live - 1) copy.words ∙ ap (λ (x : Device). x.live - 1) add ∙ one_more d.live;
    pokes = let p = copy.pokes in let r = ap (λ (x : Device). x.pokes) release in let a = ap (λ (x : Device). x.pokes) add in omega arith;
  }
    where
      own : is_frame_of placed.guest (Some (frame_label placed.guest)) ≡ true
      own = own_frame placed.guest

      one_more : (n : ℕ) → n + 1 - 1 ≡ n
      one_more n = omega arith

      outside_added : outside (frames_part placed.guest) b ≡ outside (frames_part placed.guest) d
      outside_added = ap (outside (frames_part placed.guest)) add ∙ outside-added (frames_part placed.guest) d page (frame_label placed.guest) refl own free empty

      new_own : is_frame_of placed.guest (b.label page) ≡ true
      new_own = ap (λ (x : Device). is_frame_of placed.guest (x.label page)) add ∙ (grind (arith, common_steps, own))

      outside_copied : outside (frames_part placed.guest) c ≡ outside (frames_part placed.guest) b
      outside_copied = ap (outside (frames_part placed.guest)) copy.words ∙ (λ i. record (outside (frames_part placed.guest) b) { words = λ q. at q i })
        where
          at : (q : ℕ) → cond (is_frame_of placed.guest (b.label q)) [] (put b.words page (b.words old) q) ≡ cond (is_frame_of placed.guest (b.label q)) [] (b.words q)
          at q = let n = new_own in grind (arith, common_steps)

      old_label : c.label old ≡ Some (frame_label placed.guest)
      old_label = ap (λ (x : Device). x.label old) copy.words ∙ ap (λ (x : Device). x.label old) add ∙ kept ∙ ap d.label was ∙ stands.labelled frame within
        where
          kept : put d.label page (Some (frame_label placed.guest)) old ≡ d.label old
          kept = let other = differ in grind (arith, common_steps)

      outside_released : outside (frames_part placed.guest) e ≡ outside (frames_part placed.guest) c
      outside_released = ap (outside (frames_part placed.guest)) release ∙ outside-released (frames_part placed.guest) c old (frame_label placed.guest) refl own old_label
