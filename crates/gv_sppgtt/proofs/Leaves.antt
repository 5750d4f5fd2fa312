-- The chains, when a word of a table of level 1 is written.
use Rattle.std.proofs.Common.{ℕ, ◌+◌, ◌*◌, ◌^◌, ◌<◌, ◌≡◌, ◌≢◌, Bool, true, false, eqb, cond, None, Some, refl, sym, ap, ◌∙◌, arith, ⊎_elim}
use Rattle.std.proofs.lemmas.Bool.{cases_eq, eqb-true, eq-eqb, ne_eqb}
use Rattle.gv_entry.specs.declared.process.Process.{Process}
use Rattle.gv_entry.specs.declared.process.Process.TheVariants.{Absent, Table, Page, Bad, Large}
use Rattle.gv_rmap.specs.declared.leaf.Leaf.{Leaf}
use Rattle.gv_rmap.specs.Leaves.{leaf_at}
use Rattle.gv_rmap.specs.Chains.{ReverseMap, chain_of}
use Rattle.gv_shape.specs.Shadow.{Pages, Readings, has_leaves}
use Rattle.gv_sppgtt.specs.Sound.{AreInOrder, Chained, Enters, leaf_of, place_leaf}

module _ (pages : Pages) (old new : Readings) (chains after : ReverseMap) (table page index : ℕ) (e : Process)
    (apart : (k f j g p : ℕ) → pages k f ≡ Some p → pages j g ≡ Some p → (k ≡ j) × (f ≡ g))
    (level : ℕ) (leaf_level : has_leaves level ≡ true) (is : pages level table ≡ Some page) (within : index < 512) (entered : Enters old new level table index e) (chained : Chained pages old chains)
    (linked : (h q : ℕ) → leaf_at (chain_of after h) q ≡ cond (eqb q (page * 2 ^ 16 + index)) (place_leaf page index h e) (leaf_at (chain_of chains h) q)) where
  at_place : (h : ℕ) → leaf_at (chain_of after h) (page * 2 ^ 16 + index) ≡ place_leaf page index h e
  at_place h = linked h (page * 2 ^ 16 + index) ∙ ap (λ b. cond b (place_leaf page index h e) (leaf_at (chain_of chains h) (page * 2 ^ 16 + index))) (eq-eqb (page * 2 ^ 16 + index) _ refl)

  elsewhere : (h q : ℕ) → q ≢ page * 2 ^ 16 + index → leaf_at (chain_of after h) q ≡ leaf_at (chain_of chains h) q
  elsewhere h q other = linked h q ∙ ap (λ b. cond b (place_leaf page index h e) (leaf_at (chain_of chains h) q)) (ne_eqb q _ other)

  placed_leaf : (h : ℕ) (w : Bool) → e ≡ Page h w → place_leaf page index h e ≡ Some (leaf_of page index w)
  placed_leaf h w same = ap (place_leaf page index h) same ∙ ap (λ b. cond b (Some (leaf_of page index w)) None) (eq-eqb h h refl)

  -- what stands at the place is a leaf of what was written
  from_place : (h : ℕ) (x : Process) (leaf : Leaf) → place_leaf page index h x ≡ Some leaf → (x ≡ Page h leaf.writable) × (leaf ≡ leaf_of page index leaf.writable)
  from_place h Absent leaf s = cc
  from_place h (Table t) leaf s = cc
  from_place h (Large t w) leaf s = cc
  from_place h Bad leaf s = cc
  from_place h (Page t w) leaf s = by (eqb t h) refl s
    where
      by : (b : Bool) → eqb t h ≡ b → cond b (Some (leaf_of page index w)) None ≡ Some leaf → (Page t w ≡ Page h leaf.writable) × (leaf ≡ leaf_of page index leaf.writable)
      by true b s =
          let made : leaf_of page index w ≡ leaf = cc in
          let flag : w ≡ leaf.writable = ap (λ (l : Leaf). l.writable) made in
          ((λ i. Page (eqb-true t h b i) (flag i)), sym made ∙ ap (leaf_of page index) flag)
      by false b s = cc

  pub chained-entered : AreInOrder after → Chained pages new after
  chained-entered ordered = record {
    ordered = ordered;
    linked = λ k f p i h w leafy there small reads. ⊎_elim
        (λ same_k. ⊎_elim
        (λ same_f. ⊎_elim
        (λ same_i.
        let pair : Some p ≡ Some page = sym there ∙ ap (λ x. pages x f) same_k ∙ ap (pages level) same_f ∙ is in
        let p_is : p ≡ page = cc in
        let e_is : e ≡ Page h w = sym entered.here ∙ sym (ap (λ x. new x f i) same_k ∙ ap (λ x. new level x i) same_f ∙ ap (new level table) same_i) ∙ reads in
        ap (λ q. leaf_at (chain_of after h) (q * 2 ^ 16 + i)) p_is ∙ ap (λ j. leaf_at (chain_of after h) (page * 2 ^ 16 + j)) same_i ∙ at_place h ∙ placed_leaf h w e_is
        ∙ ap (λ q. Some (leaf_of q index w)) (sym p_is) ∙ ap (λ j. Some (leaf_of p j w)) (sym same_i))
        (λ other. old_leaf k f p i h w leafy there small (λ _ _ same. other same) reads)
        (cases_eq i index))
        (λ other. old_leaf k f p i h w leafy there small (λ _ same _. other same) reads)
        (cases_eq f table))
        (λ other. old_leaf k f p i h w leafy there small (λ same _ _. other same) reads)
        (cases_eq k level);
    leaves = λ h q leaf at. ⊎_elim
        (λ same.
        let from = from_place h e leaf (sym (at_place h) ∙ ap (leaf_at (chain_of after h)) (sym same) ∙ at) in
        let pg : leaf.page ≡ page = ap (λ (l : Leaf). l.page) from.1 in
        let ix : leaf.index ≡ index = ap (λ (l : Leaf). l.index) from.1 in
        (level, table, (leaf_level, (is ∙ ap (λ n. Some n) (sym pg), (let b = within in omega arith, (let e = same in omega arith, ap (new level table) ix ∙ entered.here ∙ from.0))))))
        (λ other.
        let was = chained.leaves h q leaf (sym (elsewhere h q other) ∙ at) in
        let k = was.0 in
        let f = was.1 in
        let there = was.2.1.0 in
        let small = was.2.1.1.0 in
        let at_q : q ≡ leaf.page * 2 ^ 16 + leaf.index = was.2.1.1.1.0 in
        let differ : k ≡ level → f ≡ table → leaf.index ≡ index → ⊥ = λ a b c.
        let pair : Some leaf.page ≡ Some page = sym there ∙ ap (λ x. pages x f) a ∙ ap (pages level) b ∙ is in
        let pg : leaf.page ≡ page = cc in
        other (omega arith) in
        (k, f, (was.2.0, (there, (small, (at_q, entered.others k f leaf.index small differ ∙ was.2.1.1.1.1))))))
        (cases_eq q (page * 2 ^ 16 + index));
  }
    where
      old_leaf : (k f p i h : ℕ) (w : Bool) → has_leaves k ≡ true → pages k f ≡ Some p → i < 512 → (k ≡ level → f ≡ table → i ≡ index → ⊥) → new k f i ≡ Page h w → leaf_at (chain_of after h) (p * 2 ^ 16 + i) ≡ Some (leaf_of p i w)
      old_leaf k f p i h w leafy there small differ reads =
          let other : p * 2 ^ 16 + i ≢ page * 2 ^ 16 + index = λ same.
          let p_is : p ≡ page = omega arith in
          let i_is : i ≡ index = omega arith in
          let pair = apart k f level table page (there ∙ ap (λ n. Some n) p_is) is in
          differ pair.0 pair.1 i_is in
          elsewhere h (p * 2 ^ 16 + i) other ∙ chained.linked k f p i h w leafy there small (sym (entered.others k f i small differ) ∙ reads)
