-- A leaf is put into a word of a table of level 1.
use Rattle.std.proofs.Common.{ℕ, ◌+◌, ◌*◌, ◌-◌, ◌/◌, ◌^◌, ◌≤◌, ◌<◌, ◌≡◌, ◌≢◌, Bool, true, false, eqb, cond, List, Option, None, Some, length, get_or, refl, sym, ap, ◌∙◌, subst, arith, inl, inr, ◌⊎◌, ltb, ⊎_elim}
use Rattle.std.proofs.lemmas.Bool.{eq-eqb, true≢false, or_from, cases_lt, cases_eq, ne_eqb}
use Rattle.gv_types.specs.declared.ids.Label.{Label}
use Rattle.gv_entry.specs.declared.process.Process.{Process}
use Rattle.gv_entry.specs.declared.process.Process.TheVariants.{Page}
use Rattle.gv_gpu.specs.Device.{Device, poked}
use Rattle.gv_guest.specs.Placed.{Placed, Hosts, frame_label}
use Rattle.gv_nodes.specs.NodeMap.{NodeMap}
use Rattle.gv_rmap.specs.Leaves.{leaf_at}
use Rattle.gv_rmap.specs.Chains.{ReverseMap, chain_of}
use Rattle.gv_shape.specs.Shadow.{Readings, Names, has_leaves}
use Rattle.gv_shape.specs.Counts.{total, uses, maps, one_if, leaves, names_node, namings, above}
use Rattle.gv_shape.proofs.Totals.{total-at, total-bound}
use Rattle.gv_sppgtt.specs.Sound.{AreInOrder, decode, reading_at, readings_in, pages_in, flag, Pinned, Enters, Sound, IsLinked, place_leaf}
use Rattle.gv_sppgtt.proofs.Decoded.{leaf-page, decode-leaf}
use Rattle.gv_sppgtt.proofs.Entered.{enters, local-entered, boarded-entered, uses-entered, uses-other}
use Rattle.gv_sppgtt.proofs.Leaves.{chained-entered}
use Rattle.gv_sppgtt.proofs.Words.{leaf-names}
use Rattle.std.proofs.lemmas.Bool.Decides.{nat_tests}
use Rattle.gv_gpu.specs.Part.{shadow_label}

pub uses-at : (frames : ℕ) (r : Readings) (level f i : ℕ) (test : Process → Bool) → f < frames → i < 512 → test (r level f i) ≡ true → 1 ≤ uses frames r level test
uses-at frames r level f i test low within is =
    let inner = total-at 512 i (λ i. one_if (test (r level f i))) within in
    let outer = total-at frames f (λ f. total 512 (λ i. one_if (test (r level f i)))) low in
    let one : one_if (test (r level f i)) ≡ 1 = ap one_if is in
    omega arith

one_most : (b : Bool) → one_if b ≤ 1
one_most true = omega arith
one_most false = omega arith

pub uses-most : (frames : ℕ) (r : Readings) (level : ℕ) (test : Process → Bool) → uses frames r level test ≤ frames * 512
uses-most frames r level test = total-bound frames 512 _ (λ f. let b = total-bound 512 1 (λ i. one_if (test (r level f i))) (λ i. one_most (test (r level f i))) in omega arith)

-- a level of leaves is 1, 5 or 6
leafy_level : (level : ℕ) → has_leaves level ≡ true → level ≤ 6 → (level ≡ 1) ⊎ ((level ≡ 5) ⊎ (level ≡ 6))
leafy_level level leafy six = ⊎_elim (λ one. inl one) (λ other. ⊎_elim
    (λ four. absurd (true≢false (sym leafy ∙ or_from (eqb level 1) (ltb 4 level) (ne_eqb level 1 other) (lt_no level four))))
    (λ five. ⊎_elim (λ is. inr (inl is)) (λ no'. inr (inr (omega arith))) (cases_eq level 5))
    (cases_lt level 5)) (cases_eq level 1)
  where
    lt_no : (level : ℕ) → level < 5 → ltb 4 level ≡ false
    lt_no level four = grind (arith, nat_tests)

pub leaves-some : (frames : ℕ) (r : Readings) (level f i h : ℕ) → has_leaves level ≡ true → level ≤ 6 → f < frames → i < 512 → maps h (r level f i) ≡ true → 1 ≤ leaves frames r h
leaves-some frames r level f i h leafy six low within is =
    let used = uses-at frames r level f i (maps h) low within is in
    ⊎_elim (λ e. let u : 1 ≤ uses frames r 1 (maps h) = subst (λ l. 1 ≤ uses frames r l (maps h)) e used in omega arith)
    (⊎_elim (λ e. let u : 1 ≤ uses frames r 5 (maps h) = subst (λ l. 1 ≤ uses frames r l (maps h)) e used in omega arith)
    (λ e. let u : 1 ≤ uses frames r 6 (maps h) = subst (λ l. 1 ≤ uses frames r l (maps h)) e used in omega arith))
    (leafy_level level leafy six)

pub leaves-entered : (frames : ℕ) (old new : Readings) (level table index : ℕ) (e : Process) → Enters old new level table index e → has_leaves level ≡ true → level ≤ 6 → table < frames → index < 512 → (h : ℕ)
    → leaves frames new h + one_if (maps h (old level table index)) ≡ leaves frames old h + one_if (maps h e)
leaves-entered frames old new level table index e entered leafy six low within h =
    ⊎_elim
    (λ is. let a = here 1 is in let b = other 5 (λ x. let y = x in omega arith) in let c = other 6 (λ x. let y = x in omega arith) in omega arith)
    (⊎_elim
    (λ is. let a = here 5 is in let b = other 1 (λ x. let y = x in omega arith) in let c = other 6 (λ x. let y = x in omega arith) in omega arith)
    (λ is. let a = here 6 is in let b = other 1 (λ x. let y = x in omega arith) in let c = other 5 (λ x. let y = x in omega arith) in omega arith))
    (leafy_level level leafy six)
  where
    here : (k : ℕ) → level ≡ k → uses frames new k (maps h) + one_if (maps h (old level table index)) ≡ uses frames old k (maps h) + one_if (maps h e)
    here k is = subst (λ l. uses frames new l (maps h) + one_if (maps h (old level table index)) ≡ uses frames old l (maps h) + one_if (maps h e)) is (uses-entered frames old new level table index e entered low within (maps h))

    other : (k : ℕ) → k ≢ level → uses frames new k (maps h) ≡ uses frames old k (maps h)
    other k apart = uses-other frames old new level table index e entered low within (maps h) k apart

labels_differ : (g : ℕ) (l : Option Label) → l ≡ Some (shadow_label g) → l ≡ Some (frame_label g) → ⊥
labels_differ g l a b = true≢false (ap shadow_of (sym a ∙ b))
  where
    shadow_of : Option Label → Bool
    shadow_of None = false
    shadow_of (Some l) = l.shadow

module _ (d : Device) (placed : Placed) (nodes : NodeMap) (chains : ReverseMap) (owners : List ℕ) (told : List Bool)
    (stands : Hosts d placed) (sound : Sound d placed nodes chains owners told) where
  abbrev pub readings : Readings
  readings = readings_in d.words owners (pages_in nodes)

  pub not_a_frame : (k f p h : ℕ) → pages_in nodes k f ≡ Some p → h < length placed.pages → p ≡ get_or placed.pages h 0 → ⊥
  not_a_frame k f p h is low same = labels_differ placed.guest (d.label p) (sound.local.labelled k f p is) (ap d.label same ∙ stands.labelled h low)

  module _ (pins : List ℕ) (counted : length pins ≡ length placed.pages) (pinned : Pinned (length placed.pages) pins readings) (few : length placed.pages ≤ 16384) where
    pub pins-most : (h : ℕ) → h < length placed.pages → get_or pins h 0 < 2 ^ 32 - 1
    pins-most h low = let b = (pinned h low).1 in let u = uses-most (length placed.pages) readings 1 (maps h) in let v = uses-most (length placed.pages) readings 5 (maps h) in let w = uses-most (length placed.pages) readings 6 (maps h) in omega arith

    module _ (table level page index word : ℕ) (leafy : has_leaves level ≡ true) (node : pages_in nodes level table ≡ Some page) (within : index < 512) (read : word ≡ get_or (d.words page) index 0) where
      pub leaf-known : (h : ℕ) (w : Bool) → decode owners 1 word ≡ Page h w → IsLinked owners chains pins word page index h w
      leaf-known h w is =
          let reads : readings level table index ≡ Page h w = ap (λ o. reading_at d.words owners level o index) node ∙ ap (decode owners level) (sym read) ∙ decode-leaf owners level word leafy ∙ is in
          let form = subst (λ r. Names placed (pages_in nodes) (flag told) level r (get_or (d.words page) index 0)) reads (sound.local.names level table page index node within) in
          let number : word / 4096 ≡ get_or placed.pages h 0 = ap (λ n. n / 4096) (read ∙ form.2) ∙ leaf-page (get_or placed.pages h 0) w (flag told h) in
          let below = stands.below h form.1 in
          record {
            named = rw (number, sound.owners_long) below;
            there = rw sound.chains_long form.1;
            linked = sound.chained.linked level table page index h w leafy node within reads;
            counted = rw counted form.1;
            pinned =
                let low = sound.boarded.low level table page node in
                let used = leaves-some (length placed.pages) readings level table index h leafy low.1.1 low.0 within (ap (maps h) reads ∙ eq-eqb h h refl) in
                let p = (pinned h form.1).0 in
                omega arith;
          }

  module _ (table level page index value : ℕ) (e : Process) (nothing : (k f : ℕ) → one_if (names_node k f e) ≡ 0) (leafy : has_leaves level ≡ true) (after : ReverseMap) (owned : List ℕ)
      (node : pages_in nodes level table ≡ Some page) (within : index < 512)
      (form : Names placed (pages_in nodes) (flag told) level e value) (stands_for : decode owned level value ≡ e)
      (linked : (h q : ℕ) → leaf_at (chain_of after h) q ≡ cond (eqb q (page * 2 ^ 16 + index)) (place_leaf page index h e) (leaf_at (chain_of chains h) q))
      (at_frames : (h : ℕ) → h < length placed.pages → get_or owners (get_or placed.pages h 0) 0 ≡ h → get_or owned (get_or placed.pages h 0) 0 ≡ h)
      (at_others : (q : ℕ) → ((h : ℕ) → h < length placed.pages → q ≡ get_or placed.pages h 0 → ⊥) → get_or owned q 0 ≡ get_or owners q 0)
      (long : length after.chains ≡ length chains.chains) (owned_long : length owned ≡ 131072) where
    at_nodes : (k f p : ℕ) → pages_in nodes k f ≡ Some p → get_or owned p 0 ≡ get_or owners p 0
    at_nodes k f p is = at_others p (λ h low same. not_a_frame k f p h is low same)

    abbrev pub written : Device
    written = poked d page index value

    pub leaf-enters : Enters readings (readings_in written.words owned (pages_in nodes)) level table index e
    leaf-enters = enters d placed (length placed.pages) (pages_in nodes) (flag told) owners owned sound.boarded sound.local at_frames at_nodes level table page index value e node within stands_for form

    old_nothing : (k f : ℕ) → one_if (names_node k f (readings level table index)) ≡ 0
    old_nothing k f = ap (λ o. one_if (names_node k f (reading_at d.words owners level o index))) node ∙ ap (λ r. one_if (names_node k f r)) (decode-leaf owners level (get_or (d.words page) index 0) leafy) ∙ leaf-names owners (get_or (d.words page) index 0) k f

    same_namings : (k f : ℕ) → 1 ≤ k → namings (length placed.pages) (readings_in written.words owned (pages_in nodes)) k f ≡ namings (length placed.pages) readings k f
    same_namings k f some = ⊎_elim
        (λ same.
        let u = uses-entered (length placed.pages) readings (readings_in written.words owned (pages_in nodes)) level table index e leaf-enters (sound.boarded.low level table page node).0 within (names_node k f) in
        let old = old_nothing k f in
        let new = nothing k f in
        subst (λ l. uses (length placed.pages) (readings_in written.words owned (pages_in nodes)) l (names_node k f) ≡ uses (length placed.pages) readings l (names_node k f)) (sym same) (omega arith))
        (λ other. uses-other (length placed.pages) readings (readings_in written.words owned (pages_in nodes)) level table index e leaf-enters (sound.boarded.low level table page node).0 within (names_node k f) (above k) other)
        (cases_eq (above k) level)

    pub leaf-sound : AreInOrder after → Sound written placed nodes after owned told
    leaf-sound ordered = record {
      frames = sound.frames;
      chains_long = long ∙ sound.chains_long;
      told_long = sound.told_long;
      owners_long = owned_long;
      boarded = boarded-entered d placed (length placed.pages) (pages_in nodes) (flag told) owners owned sound.boarded sound.local at_frames at_nodes level table page index value e node within stands_for form;
      local = local-entered d placed (length placed.pages) (pages_in nodes) (flag told) owners owned sound.boarded sound.local at_frames at_nodes level table page index value e node within stands_for form;
      chained = chained-entered (pages_in nodes) readings (readings_in written.words owned (pages_in nodes)) chains after table page index e sound.boarded.apart level leafy node within leaf-enters sound.chained linked ordered;
      counted = λ k f some. rw (same_namings k f some) (sound.counted k f some);
    }

    -- the pins move with the leaves
    pub leaf-exact : (pins between new : List ℕ)
        → ((h : ℕ) → get_or between h 0 + one_if (maps h (readings level table index)) ≡ get_or pins h 0)
        → ((h : ℕ) → get_or new h 0 ≡ get_or between h 0 + one_if (maps h e))
        → (h : ℕ) → get_or new h 0 + leaves (length placed.pages) readings h ≡ get_or pins h 0 + leaves (length placed.pages) (readings_in written.words owned (pages_in nodes)) h
    leaf-exact pins between new took put h =
        let low' = sound.boarded.low level table page node in
        let change = leaves-entered (length placed.pages) readings (readings_in written.words owned (pages_in nodes)) level table index e leaf-enters leafy low'.1.1 low'.0 within h in
        let first = took h in
        let second = put h in
        omega arith

    pub leaf-pinned : (pins between new : List ℕ) → Pinned (length placed.pages) pins readings
        → ((h : ℕ) → get_or between h 0 + one_if (maps h (readings level table index)) ≡ get_or pins h 0)
        → ((h : ℕ) → get_or new h 0 ≡ get_or between h 0 + one_if (maps h e))
        → Pinned (length placed.pages) new (readings_in written.words owned (pages_in nodes))
    leaf-pinned pins between new pinned took put h low =
        let low' = sound.boarded.low level table page node in
        let change = leaves-entered (length placed.pages) readings (readings_in written.words owned (pages_in nodes)) level table index e leaf-enters leafy low'.1.1 low'.0 within h in
        let was = pinned h low in
        let first = took h in
        let second = put h in
        let a = was.0 in
        let b = was.1 in
        (omega arith, omega arith)

pub nested : {A : Type 0} (b : Bool) (x y z none : A) → y ≡ cond b none z → cond b x y ≡ cond b x z
nested true x y z none h = refl
nested false x y z none h = h
