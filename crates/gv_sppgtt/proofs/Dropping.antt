-- The steps of dropping a node with all that it names.
use Rattle.std.proofs.Common.{ℕ, ◌+◌, ◌*◌, ◌≤◌, ◌<◌, ◌≡◌, Bool, true, false, ◌&&◌, eqb, None, Some, refl, sym, ap, ◌∙◌, subst, arith, inl, inr, ⊎_elim, ◌⊎◌}
use Rattle.std.proofs.lemmas.Bool.{cases_eq, eq-eqb, ne_eqb}
use Rattle.std.proofs.lemmas.Bool.Decides.{nat_tests}
use Rattle.gv_entry.specs.declared.process.Process.{Process}
use Rattle.gv_entry.specs.declared.process.Process.TheVariants.{Absent}
use Rattle.gv_shape.specs.Counts.{uses, one_if, namings, above, names_node, naming, rank}
use Rattle.gv_sppgtt.specs.Sound.{Enters, IsBelow}
use Rattle.gv_sppgtt.specs.Grown.{Sketch, one_at, Dropped, Emptying, Emptied}
use Rattle.gv_sppgtt.proofs.Entered.{uses-entered, uses-other}
use Rattle.gv_shape.proofs.Levels.{naming-at, rank-below}

module _ (frames level frame i : ℕ) (a b c : Sketch) (small : i < 512) where
  -- one more word is taken out
  pub emptying-emptied : (p : ℕ) → c.pages level frame ≡ Some p → Emptying frames level frame i a b → Emptied frames level frame i b c → Emptying frames level frame (i + 1) a c
  emptying-emptied p there g w = record {
    within = λ k f p is. g.within k f p (w.within k f p is);
    above = λ k f up. w.above k f up ∙ g.above k f up;
    above_parents = λ k f up. w.above_parents k f up ∙ g.above_parents k f up;
    same = λ k f p j is low past.
        w.same k f p j is low (λ x y z. let h = past x y in omega arith) ∙ g.same k f p j (w.within k f p is) low (λ x y. let h = past x y in omega arith);
    empty = λ j below low. ⊎_elim
        (λ same. ap (c.readings level frame) same ∙ w.here)
        (λ other. w.same level frame p j there low (λ _ _ z. other z) ∙ g.empty j (omega arith) low)
        (cases_eq j i);
    alive = λ k f p is was. w.alive k f p is (g.alive k f p (w.within k f p is) was);
    balanced = λ k f some. let x = g.balanced k f some in let y = w.balanced k f some in omega arith;
  }

names_absent : (k f : ℕ) → one_if (names_node k f Absent) ≡ 0
names_absent k f = refl

-- a word that was absent already
pub emptied-absent : (frames level frame index : ℕ) (a : Sketch) → a.readings level frame index ≡ Absent → Emptied frames level frame index a a
emptied-absent frames level frame index a is = record {
  within = λ k f p h. h;
  above = λ k f up. refl;
  above_parents = λ k f up. refl;
  same = λ k f p i h low apart. refl;
  here = is;
  alive = λ k f p h was. was;
  balanced = λ k f some. omega arith;
}

-- A word of a node becomes absent.
module _ (frames level frame index : ℕ) (a b : Sketch) (low : frame < frames) (small : index < 512)
    (pages : b.pages ≡ a.pages) (parents : b.parents ≡ a.parents) (entered : Enters a.readings b.readings level frame index Absent) where
  uses_of : (k f : ℕ) → namings frames b.readings k f + (one_if (eqb (above k) level) * one_if (names_node k f (a.readings level frame index))) ≡ namings frames a.readings k f
  uses_of k f = ⊎_elim
      (λ same.
      let t = eq-eqb (above k) level same in
      let u = uses-entered frames a.readings b.readings level frame index Absent entered low small (names_node k f) in
      rw t (subst (λ l. uses frames b.readings l (names_node k f) + 1 * one_if (names_node k f (a.readings level frame index)) ≡ uses frames a.readings l (names_node k f)) (sym same) (let v = u in omega arith)))
      (λ other.
      let t = ne_eqb (above k) level other in
      let u = uses-other frames a.readings b.readings level frame index Absent entered low small (names_node k f) (above k) other in
      rw t (rw u (omega arith)))
      (cases_eq (above k) level)

  -- it mapped a frame
  pub emptied-leaf : ((k f : ℕ) → one_if (names_node k f (a.readings level frame index)) ≡ 0) → Emptied frames level frame index a b
  emptied-leaf leaf = record {
    within = λ k f p is. ap (λ q. q k f) (sym pages) ∙ is;
    above = λ k f up. ap (λ q. q k f) pages;
    above_parents = λ k f up. ap (λ q. q k f) parents;
    same = λ k f p i is l apart. entered.others k f i l apart;
    here = entered.here;
    alive = λ k f p is was. subst (λ q. 1 ≤ q k f) (sym parents) was;
    balanced = λ k f some.
        let old = leaf k f in
        let u = rw old at (uses_of k f) in
        let p : b.parents k f ≡ a.parents k f = ap (λ q. q k f) parents in
        omega arith;
  }

  -- it named a table, which then lost a parent
  pub emptied-table : (h lower n : ℕ) (c : Sketch) → a.pages level frame ≡ Some n → a.readings level frame index ≡ naming lower h → IsBelow frames level h lower → Dropped frames lower h b c → Emptied frames level frame index a c
  emptied-table h lower n c there table below g = record {
    within = λ k f p is. ap (λ q. q k f) (sym pages) ∙ g.within k f p is;
    above = λ k f up. g.above k f (let r = nearer in omega arith) ∙ ap (λ q. q k f) pages;
    above_parents = λ k f up. g.above_parents k f (let r = nearer in omega arith) ∙ ap (λ q. q k f) parents;
    same = λ k f p i is l apart. g.same k f p i is l ∙ entered.others k f i l apart;
    here = g.same level frame n index (g.above level frame nearer ∙ ap (λ q. q level frame) pages ∙ there) small ∙ entered.here;
    alive = λ k f p is was. g.alive k f p is (subst (λ q. 1 ≤ q k f) (sym parents) was);
    balanced = λ k f some.
        let x = g.balanced k f some in
        let old : one_if (names_node k f (a.readings level frame index)) ≡ one_if (names_node k f (naming lower h)) = ap (λ r. one_if (names_node k f r)) table in
        let u = rw old at (uses_of k f) in
        let at : one_at lower h k f ≡ one_if (eqb (above k) level) * one_if (names_node k f (naming lower h)) = naming-at lower level h k f below.low below.six below.above below.four some in
        let p : b.parents k f ≡ a.parents k f = ap (λ q. q k f) parents in
        omega arith;
  }
    where
      nearer : rank lower < rank level
      nearer = rank-below lower level below.low below.above below.high below.four

-- a node lost a parent, and has others
module _ (frames level frame : ℕ) (a b : Sketch) (pages : (k f : ℕ) → b.pages k f ≡ a.pages k f) (readings : (k f i : ℕ) → b.readings k f i ≡ a.readings k f i)
    (here : b.parents level frame + 1 ≡ a.parents level frame) (others : (k f : ℕ) → (k ≡ level → f ≡ frame → ⊥) → b.parents k f ≡ a.parents k f) where
  cases : (k f : ℕ) → ((k ≡ level) × (f ≡ frame)) ⊎ (k ≡ level → f ≡ frame → ⊥)
  cases k f = ⊎_elim (λ x. ⊎_elim (λ y. inl (x, y)) (λ y. inr (λ _ e. y e)) (cases_eq f frame)) (λ x. inr (λ e _. x e)) (cases_eq k level)

  on : (k f : ℕ) → k ≡ level → f ≡ frame → one_at level frame k f ≡ 1
  on k f x y = grind (arith, nat_tests)

  both : (b : Bool) → one_if (b && false) ≡ 0
  both true = refl
  both false = refl

  off : (k f : ℕ) → (k ≡ level → f ≡ frame → ⊥) → one_at level frame k f ≡ 0
  off k f apart = ⊎_elim (λ x. ⊎_elim (λ y. absurd (apart x y)) (λ y. let z = ne_eqb f frame y in rw z (both (eqb k level))) (cases_eq f frame)) (λ x. let z = ne_eqb k level x in rw z refl) (cases_eq k level)

  pub count-less : (k f : ℕ) → b.parents k f + one_at level frame k f ≡ a.parents k f
  count-less k f = ⊎_elim
      (λ x. let o = on k f x.0 x.1 in
      let p : b.parents k f ≡ b.parents level frame = ap (λ z. b.parents z f) x.0 ∙ ap (b.parents level) x.1 in
      let q : a.parents k f ≡ a.parents level frame = ap (λ z. a.parents z f) x.0 ∙ ap (a.parents level) x.1 in
      omega arith)
      (λ apart. let o = off k f apart in let p = others k f apart in omega arith)
      (cases k f)

  same_uses : (k : ℕ) (test : Process → Bool) → uses frames b.readings k test ≡ uses frames a.readings k test
  same_uses k test = ap (λ r. uses frames r k test) (λ i k f j. readings k f j i)

  pub dropped-less : 1 ≤ b.parents level frame → Dropped frames level frame a b
  dropped-less some = record {
    within = λ k f p is. sym (pages k f) ∙ is;
    above = λ k f up. pages k f;
    above_parents = λ k f up. others k f (λ x _. let y : rank k ≡ rank level = ap rank x in omega arith);
    same = λ k f p i is l. readings k f i;
    alive = λ k f p is was. ⊎_elim (λ x. subst (λ n. 1 ≤ n) (sym (ap (λ z. b.parents z f) x.0 ∙ ap (b.parents level) x.1)) some) (λ apart. subst (λ n. 1 ≤ n) (sym (others k f apart)) was) (cases k f);
    balanced = λ k f some. let c = count-less k f in let u = same_uses (above k) (names_node k f) in omega arith;
  }

  -- it had no other: its words were taken out, and then it was
  pub dropped-last : (e c : Sketch) → b.parents level frame ≡ 0 → Emptying frames level frame 512 b e → c.pages level frame ≡ None
      → ((k f : ℕ) → (k ≡ level → f ≡ frame → ⊥) → c.pages k f ≡ e.pages k f) → ((k f : ℕ) → c.parents k f ≡ e.parents k f)
      → ((k f i : ℕ) → i < 512 → c.readings k f i ≡ e.readings k f i) → ((k : ℕ) (test : Process → Bool) → uses frames c.readings k test ≡ uses frames e.readings k test) → Dropped frames level frame a c
  dropped-last e c none g gone rest parents words uses_same = record {
    within = λ k f p is. sym (pages k f) ∙ g.within k f p (sym (rest k f (apart_of k f p is)) ∙ is);
    above = λ k f up. rest k f (λ x _. let y : rank k ≡ rank level = ap rank x in omega arith) ∙ g.above k f (omega arith) ∙ pages k f;
    above_parents = λ k f up. parents k f ∙ g.above_parents k f (omega arith) ∙ others k f (λ x _. let y : rank k ≡ rank level = ap rank x in omega arith);
    same = λ k f p i is l.
        let apart = apart_of k f p is in
        words k f i l ∙ g.same k f p i (sym (rest k f apart) ∙ is) l (λ x y. absurd (apart x y)) ∙ readings k f i;
    alive = λ k f p is was.
        let apart = apart_of k f p is in
        subst (λ n. 1 ≤ n) (sym (parents k f)) (g.alive k f p (sym (rest k f apart) ∙ is) (subst (λ n. 1 ≤ n) (sym (others k f apart)) was));
    balanced = λ k f some.
        let l = count-less k f in
        let x = g.balanced k f some in
        let u = same_uses (above k) (names_node k f) in
        let v = uses_same (above k) (names_node k f) in
        let p = parents k f in
        omega arith;
  }
    where
      apart_of : (k f p : ℕ) → c.pages k f ≡ Some p → k ≡ level → f ≡ frame → ⊥
      apart_of k f p is x y = let clash : Some p ≡ None = sym is ∙ ap (λ z. c.pages z f) x ∙ ap (c.pages level) y ∙ gone in cc
