-- A table is put into a word of a table of a level above.
use Rattle.std.proofs.Common.{ℕ, ◌+◌, ◌-◌, ◌/◌, ◌%◌, ◌≤◌, ◌<◌, ◌≡◌, Bool, true, false, eqb, cond, List, Option, None, Some, length, get_or, refl, sym, ap, ◌∙◌, subst, arith, ⊎_elim, IfSome, ltb}
use Rattle.std.proofs.lemmas.Bool.{cases_eq, true≢false, cases_lt}
use Rattle.gv_entry.specs.declared.process.Process.{Process}
use Rattle.gv_entry.specs.declared.process.Process.TheVariants.{Table, Large}
use Rattle.gv_gpu.specs.Device.{Device, poked}
use Rattle.gv_guest.specs.Placed.{Placed}
use Rattle.gv_nodes.specs.NodeMap.{NodeMap}
use Rattle.gv_rmap.specs.Chains.{ReverseMap}
use Rattle.gv_shape.specs.Shadow.{Pages, Readings, Names, table_word, has_leaves, split_word}
use Rattle.gv_shape.specs.Counts.{uses, one_if, names_node, namings, above}
use Rattle.gv_sppgtt.specs.Sound.{decode, readings_in, pages_in, parents_in, flag, Chained, Enters, Sound, IsChild, child_entry, child_value}
use Rattle.gv_sppgtt.proofs.Entered.{enters, local-entered, boarded-entered, uses-entered, uses-other, table-number, split-number}
use Rattle.gv_shape.proofs.Levels.{low_level, high_level, above-low, above-high, naming-low, naming-high, split-back}
use Rattle.gv_sppgtt.proofs.Words.{no_leaves, odd_table, odd_split}
use Rattle.gv_sppgtt.specs.declared.tables.Child.{Child}

-- chains depend on the words of level 1 alone
pub chained-kept : (pages : Pages) (old new : Readings) (chains : ReverseMap) → ((k f i : ℕ) → has_leaves k ≡ true → i < 512 → new k f i ≡ old k f i) → Chained pages old chains → Chained pages new chains
chained-kept pages old new chains same c = record {
  ordered = c.ordered;
  linked = λ k f p i h w leafy there small reads. c.linked k f p i h w leafy there small (sym (same k f i leafy small) ∙ reads);
  leaves = λ h q leaf at.
      let was = c.leaves h q leaf at in
      (was.0, was.1, (was.2.0, (was.2.1.0, (was.2.1.1.0, (was.2.1.1.1.0, same was.0 was.1 leaf.index was.2.0 was.2.1.1.0 ∙ was.2.1.1.1.1)))));
}

pub table_odd : (p : ℕ) → table_word p % 2 ≡ 1
table_odd p = omega arith

table_plain : (p : ℕ) → eqb (table_word p / 4 % 2) 1 ≡ false
table_plain p = let n : table_word p / 4 % 2 ≡ 0 = omega arith in rw n refl

split_odd : (p : ℕ) (w : Bool) → split_word p w % 2 ≡ 1
split_odd p true = omega arith
split_odd p false = omega arith

split_is : (p : ℕ) (w : Bool) → eqb (split_word p w / 4 % 2) 1 ≡ true
split_is p true = let n : split_word p true / 4 % 2 ≡ 1 = omega arith in rw n refl
split_is p false = let n : split_word p false / 4 % 2 ≡ 1 = omega arith in rw n refl

split_bit : (p : ℕ) (w : Bool) → eqb (split_word p w / 8 % 2) 1 ≡ w
split_bit p true = let n : split_word p true / 8 % 2 ≡ 1 = omega arith in rw n refl
split_bit p false = let n : split_word p false / 8 % 2 ≡ 0 = omega arith in rw n refl

pub decode-table : (owners : List ℕ) (level p : ℕ) → 2 ≤ level → level ≤ 4 → decode owners level (table_word p) ≡ Table (get_or owners p 0)
decode-table owners level p high few = odd_table owners level (table_word p) high few (table_odd p) (table_plain p) ∙ ap (λ n. Table (get_or owners n 0)) (table-number p)

pub decode-split : (owners : List ℕ) (level p : ℕ) (w : Bool) → 2 ≤ level → level ≤ 4 → decode owners level (split_word p w) ≡ Large (get_or owners p 0) w
decode-split owners level p w high few = odd_split owners level (split_word p w) high few (split_odd p w) (split_is p w) ∙ (λ i. Large (get_or owners (split-number p w i) 0) (split_bit p w i))

module _ (d : Device) (placed : Placed) (nodes : NodeMap) (chains : ReverseMap) (owners : List ℕ) (told : List Bool) (sound : Sound d placed nodes chains owners told)
    (level table page index value : ℕ) (e : Process) (node : pages_in nodes level table ≡ Some page) (high : 2 ≤ level) (few : level ≤ 4) (within : index < 512)
    (form : Names placed (pages_in nodes) (flag told) level e value) (stands_for : decode owners level value ≡ e)
    (room : (k f : ℕ) → 1 ≤ k → above k ≡ level → namings (length placed.pages) (readings_in d.words owners (pages_in nodes)) k f + one_if (names_node k f e) ≤ parents_in nodes k f) where
  abbrev pub written : Device
  written = poked d page index value

  abbrev pub readings : Readings
  readings = readings_in d.words owners (pages_in nodes)

  pub table-enters : Enters readings (readings_in written.words owners (pages_in nodes)) level table index e
  table-enters = enters d placed (length placed.pages) (pages_in nodes) (flag told) owners owners sound.boarded sound.local (λ h low is. is) (λ k f p is. refl) level table page index value e node within stands_for form

  low : table < length placed.pages
  low = (sound.boarded.low level table page node).0

  pub table-sound : Sound written placed nodes chains owners told
  table-sound = record {
    frames = sound.frames;
    chains_long = sound.chains_long;
    told_long = sound.told_long;
    owners_long = sound.owners_long;
    boarded = boarded-entered d placed (length placed.pages) (pages_in nodes) (flag told) owners owners sound.boarded sound.local (λ h low is. is) (λ k f p is. refl) level table page index value e node within stands_for form;
    local = local-entered d placed (length placed.pages) (pages_in nodes) (flag told) owners owners sound.boarded sound.local (λ h low is. is) (λ k f p is. refl) level table page index value e node within stands_for form;
    chained = chained-kept (pages_in nodes) readings (readings_in written.words owners (pages_in nodes)) chains
        (λ k f i leafy small. table-enters.others k f i small (λ same _ _. true≢false (sym leafy ∙ ap has_leaves same ∙ no_leaves level high few))) sound.chained;
    counted = λ k f some. ⊎_elim
        (λ same.
        let u = uses-entered (length placed.pages) readings (readings_in written.words owners (pages_in nodes)) level table index e table-enters low within (names_node k f) in
        let r = subst (λ l. uses (length placed.pages) readings l (names_node k f) + one_if (names_node k f e) ≤ parents_in nodes k f) same (room k f some same) in
        subst (λ l. uses (length placed.pages) (readings_in written.words owners (pages_in nodes)) l (names_node k f) ≤ parents_in nodes k f) (sym same) (let x = r in let y = u in omega arith))
        (λ other. let u = uses-other (length placed.pages) readings (readings_in written.words owners (pages_in nodes)) level table index e table-enters low within (names_node k f) (above k) other in rw u (sound.counted k f some))
        (cases_eq (above k) level);
  }

module _ (d : Device) (placed : Placed) (nodes : NodeMap) (chains : ReverseMap) (owners : List ℕ) (told : List Bool) (sound : Sound d placed nodes chains owners told) (level : ℕ) (high : 2 ≤ level) (few : level ≤ 4) where
  abbrev value_of : Child → ℕ
  value_of to = cond (ltb to.level 5) (table_word to.page) (split_word to.page (eqb to.level 5))

  value_low : (to : Child) → to.level < 5 → value_of to ≡ table_word to.page
  value_low to low = let t = low_level to.level low in rw t refl

  value_high : (to : Child) → 5 ≤ to.level → value_of to ≡ split_word to.page (eqb to.level 5)
  value_high to many = let t = high_level to.level many in rw t refl

  pub table-form : (child : Option Child) → IsChild (pages_in nodes) level child → Names placed (pages_in nodes) (flag told) level (child_entry child) (child_value child)
  table-form None there = refl
  table-form (Some to) there = ⊎_elim
      (λ low.
      let a = above-low to.level low in
      let up = there.1.0 in
      let same : to.level ≡ level - 1 = omega arith in
      subst (λ e. Names placed (pages_in nodes) (flag told) level e (value_of to)) (sym (naming-low to.level to.frame low))
      (high, (few, (to.page, ap (λ k. pages_in nodes k to.frame) (sym same) ∙ there.0, value_low to low))))
      (λ many.
      let back = split-back to.level many there.1.1.1 in
      subst (λ e. Names placed (pages_in nodes) (flag told) level e (value_of to)) (sym (naming-high to.level to.frame many))
      (sym there.1.0 ∙ above-high to.level many, (to.page, ap (λ k. pages_in nodes k to.frame) back ∙ there.0, value_high to many)))
      (cases_lt to.level 5)

  pub table-stands_for : (child : Option Child) → IsChild (pages_in nodes) level child → decode owners level (child_value child) ≡ child_entry child
  table-stands_for None there = refl
  table-stands_for (Some to) there =
      let owner = sound.boarded.owner to.level to.frame to.page there.0 in
      ⊎_elim
      (λ low. ap (decode owners level) (value_low to low) ∙ decode-table owners level to.page high few ∙ ap (λ f. Table f) owner ∙ sym (naming-low to.level to.frame low))
      (λ many. ap (decode owners level) (value_high to many) ∙ decode-split owners level to.page (eqb to.level 5) high few ∙ ap (λ f. Large f (eqb to.level 5)) owner ∙ sym (naming-high to.level to.frame many))
      (cases_lt to.level 5)

  pub table-below : (child : Option Child) → IsChild (pages_in nodes) level child → IfSome child (λ to. to.page < 131072)
  table-below None there = tt_of
    where
      tt_of : IfSome None (λ (to : Child). to.page < 131072)
      tt_of = search
  table-below (Some to) there = sound.boarded.below to.level to.frame to.page there.0
