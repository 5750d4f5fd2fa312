-- What a word of a node names, read from the word.
use Rattle.std.proofs.Common.{ℕ, ◌-◌, ◌/◌, ◌%◌, ◌≤◌, ◌<◌, ◌≡◌, Bool, true, false, eqb, cond, List, Some, length, get_or, refl, sym, ap, ◌∙◌, subst, arith, ⊎_elim}
use Rattle.std.proofs.lemmas.Bool.{true≢false, cases_lt}
use Rattle.std.proofs.lemmas.List.{get_or_default}
use Rattle.gv_entry.specs.declared.process.Process.{Process}
use Rattle.gv_entry.specs.declared.process.Process.TheVariants.{Absent, Table, Page, Bad, Large}
use Rattle.gv_gpu.specs.Device.{Device}
use Rattle.gv_guest.specs.Placed.{Placed}
use Rattle.gv_nodes.specs.NodeMap.{NodeMap}
use Rattle.gv_rmap.specs.Chains.{ReverseMap}
use Rattle.gv_shape.specs.Shadow.{Names, has_leaves, split_level, Pages}
use Rattle.gv_shape.specs.Counts.{one_if, names_node, naming, above}
use Rattle.gv_sppgtt.specs.Sound.{decode, reading_at, readings_in, pages_in, flag, Sound, IsBelow, Boarded}
use Rattle.gv_sppgtt.proofs.Entered.{table-number, split-number}
use Rattle.gv_shape.proofs.Levels.{naming-low, naming-high, above-low, split-back}
use Rattle.std.proofs.lemmas.Bool.Decides.{nat_tests}

-- tables above have no leaves
pub no_leaves : (level : ℕ) → 2 ≤ level → level ≤ 4 → has_leaves level ≡ false
no_leaves level high few = grind (arith, nat_tests)

-- a leaf names no node
pub leaf-names : (owners : List ℕ) (word k f : ℕ) → one_if (names_node k f (decode owners 1 word)) ≡ 0
leaf-names owners word k f = by (eqb (word % 2) 0)
  where
    by : (b : Bool) → one_if (names_node k f (cond b Absent (Page (get_or owners (word / 4096) 0) (eqb (word / 4 % 2) 1)))) ≡ 0
    by true = refl
    by false = refl

pub odd_table : (owners : List ℕ) (level word : ℕ) → 2 ≤ level → level ≤ 4 → word % 2 ≡ 1 → eqb (word / 4 % 2) 1 ≡ false → decode owners level word ≡ Table (get_or owners (word / 4096) 0)
odd_table owners level word high few odd plain = let other = no_leaves level high few in rw (odd, other, plain) refl

pub odd_split : (owners : List ℕ) (level word : ℕ) → 2 ≤ level → level ≤ 4 → word % 2 ≡ 1 → eqb (word / 4 % 2) 1 ≡ true → decode owners level word ≡ Large (get_or owners (word / 4096) 0) (eqb (word / 8 % 2) 1)
odd_split owners level word high few odd split = let other = no_leaves level high few in rw (odd, other, split) refl

-- what an entry of a table above names is there
pub named : (d : Device) (placed : Placed) (frames : ℕ) (pages : Pages) (guarded : ℕ → Bool) (owners : List ℕ) → Boarded d frames pages owners
    → (level word : ℕ) (e : Process) → 2 ≤ level → level ≤ 4 → word % 2 ≡ 1 → Names placed pages guarded level e word
    → (h lower p : ℕ) × ((e ≡ naming lower h) × ((pages lower h ≡ Some p) × ((word / 4096 ≡ p) × IsBelow frames level h lower)))
named d placed frames pages guarded owners boarded level word Absent high few odd form = absurd (omega arith)
named d placed frames pages guarded owners boarded level word (Table h) high few odd form =
    let p = form.1.1.0 in
    let low = (boarded.low (level - 1) h p form.1.1.1).0 in (
      h,
      level - 1,
      p,
      (
        sym (naming-low (level - 1) h (omega arith)),
        (
          form.1.1.1,
          (
            ap (λ n. n / 4096) form.1.1.2 ∙ table-number p,
            record { above = above-low (level - 1) (omega arith) ∙ omega arith; low = omega arith; six = omega arith; high = high; four = few; small = low; whole = boarded.whole (level - 1) h p form.1.1.1 },
          ),
        ),
      ),
    )
named d placed frames pages guarded owners boarded level word (Large b w) high few odd form =
    let p = form.1.0 in
    let low = boarded.low (split_level w) b p form.1.1 in (
      b,
      split_level w,
      p,
      (
        sym (split_naming w),
        (
          form.1.1,
          (
            ap (λ n. n / 4096) form.1.2 ∙ split-number p w,
            record { above = split_above w ∙ sym form.0; low = split_low w; six = low.1.1; high = high; four = few; small = low.0; whole = boarded.whole (split_level w) b p form.1.1 },
          ),
        ),
      ),
    )
  where
    split_naming : (w : Bool) → naming (split_level w) b ≡ Large b w
    split_naming true = refl
    split_naming false = refl

    split_above : (w : Bool) → above (split_level w) ≡ 2
    split_above true = refl
    split_above false = refl

    split_low : (w : Bool) → 1 ≤ split_level w
    split_low true = omega arith
    split_low false = omega arith
named d placed frames pages guarded owners boarded level word (Page h w) high few odd form = absurd (true≢false (sym form.0 ∙ no_leaves level high few))
named d placed frames pages guarded owners boarded level word Bad high few odd form = absurd form

module _ (d : Device) (placed : Placed) (nodes : NodeMap) (chains : ReverseMap) (owners : List ℕ) (told : List Bool) (sound : Sound d placed nodes chains owners told)
    (level frame page index word : ℕ) (node : pages_in nodes level frame ≡ Some page) (high : 2 ≤ level) (few : level ≤ 4) (within : index < 512) (read : word ≡ get_or (d.words page) index 0) (odd : word % 2 ≡ 1) where
  reading : readings_in d.words owners (pages_in nodes) level frame index ≡ decode owners level word
  reading = ap (λ o. reading_at d.words owners level o index) node ∙ ap (decode owners level) (sym read)

  form : (e : Process) → decode owners level word ≡ e → Names placed (pages_in nodes) (flag told) level e word
  form e is = subst (λ r. Names placed (pages_in nodes) (flag told) level r word) (reading ∙ is)
      (subst (λ w. Names placed (pages_in nodes) (flag told) level (readings_in d.words owners (pages_in nodes) level frame index) w) (sym read) (sound.local.names level frame page index node within))

  pub table-named : word / 4096 < length owners
  table-named =
      let at = named d placed (length placed.pages) (pages_in nodes) (flag told) owners sound.boarded level word (decode owners level word) high few odd (form (decode owners level word) refl) in
      let below = sound.boarded.below at.1 at.0 at.2 at.3.1.0 in
      let number = at.3.1.1.0 in
      rw (number, sound.owners_long) below

  owner_is : (x : ℕ) → x ≡ get_or owners (word / 4096) x → get_or owners (word / 4096) 0 ≡ x
  owner_is x is = get_or_default owners (word / 4096) 0 x table-named ∙ sym is

  pub table-reads : (x : ℕ) → x ≡ get_or owners (word / 4096) x → eqb (word / 4 % 2) 1 ≡ false → (readings_in d.words owners (pages_in nodes) level frame index ≡ naming (level - 1) x) × IsBelow (length placed.pages) level x (level - 1)
  table-reads x is plain =
      let e : decode owners level word ≡ Table x = odd_table owners level word high few odd plain ∙ ap (λ f. Table f) (owner_is x is) in
      let f = form (Table x) e in
      let there = f.1.1.1 in (
        reading ∙ e ∙ sym (naming-low (level - 1) x (omega arith)),
        record { above = above-low (level - 1) (omega arith) ∙ omega arith; low = omega arith; six = omega arith; high = high; four = few; small = (sound.boarded.low (level - 1) x f.1.1.0 there).0; whole = sound.boarded.whole (level - 1) x f.1.1.0 there },
      )

  pub split-reads : (x : ℕ) → x ≡ get_or owners (word / 4096) x → eqb (word / 4 % 2) 1 ≡ true → (readings_in d.words owners (pages_in nodes) level frame index ≡ naming (split_level (eqb (word / 8 % 2) 1)) x) × IsBelow (length placed.pages) level x (split_level (eqb (word / 8 % 2) 1))
  split-reads x is split =
      let w = eqb (word / 8 % 2) 1 in
      let e : decode owners level word ≡ Large x w = odd_split owners level word high few odd split ∙ ap (λ f. Large f w) (owner_is x is) in
      let f = form (Large x w) e in
      let there = f.1.1 in (
        reading ∙ e ∙ sym (split_naming w),
        record { above = split_above w ∙ sym f.0; low = split_low w; six = (sound.boarded.low (split_level w) x f.1.0 there).1.1; high = high; four = few; small = (sound.boarded.low (split_level w) x f.1.0 there).0; whole = sound.boarded.whole (split_level w) x f.1.0 there },
      )
    where
      split_naming : (w : Bool) → naming (split_level w) x ≡ Large x w
      split_naming true = refl
      split_naming false = refl

      split_above : (w : Bool) → above (split_level w) ≡ 2
      split_above true = refl
      split_above false = refl

      split_low : (w : Bool) → 1 ≤ split_level w
      split_low true = omega arith
      split_low false = omega arith

-- a node that a word names is there
pub named-there : (d : Device) (placed : Placed) (nodes : NodeMap) (chains : ReverseMap) (owners : List ℕ) (told : List Bool) → Sound d placed nodes chains owners told
    → (level frame page index h lower : ℕ) → pages_in nodes level frame ≡ Some page → index < 512 → readings_in d.words owners (pages_in nodes) level frame index ≡ naming lower h → above lower ≡ level → 1 ≤ lower → lower ≤ 6 → (p : ℕ) × (pages_in nodes lower h ≡ Some p)
named-there d placed nodes chains owners told sound level frame page index h lower node within reads up one six = ⊎_elim
    (λ low.
    let f = subst (λ r. Names placed (pages_in nodes) (flag told) level r (get_or (d.words page) index 0)) (reads ∙ naming-low lower h low) (sound.local.names level frame page index node within) in
    let a = above-low lower low in
    let same : level - 1 ≡ lower = omega arith in
    (f.1.1.0, ap (λ k. pages_in nodes k h) (sym same) ∙ f.1.1.1))
    (λ many.
    let f = subst (λ r. Names placed (pages_in nodes) (flag told) level r (get_or (d.words page) index 0)) (reads ∙ naming-high lower h many) (sound.local.names level frame page index node within) in
    (f.1.0, ap (λ k. pages_in nodes k h) (sym (split-back lower many six)) ∙ f.1.1))
    (cases_lt lower 5)
