-- The steps of making a node with all that it names.
use Rattle.std.proofs.Common.{ℕ, ◌+◌, ◌*◌, ◌≤◌, ◌<◌, ◌≡◌, Bool, true, false, ◌&&◌, eqb, Option, None, Some, refl, sym, ap, ◌∙◌, subst, arith, inl, inr, ⊎_elim, ◌⊎◌}
use Rattle.std.proofs.lemmas.Bool.{cases_eq, eq-eqb, ne_eqb}
use Rattle.std.proofs.lemmas.Bool.Decides.{nat_tests}
use Rattle.gv_types.specs.Memory.{Memory}
use Rattle.gv_entry.specs.declared.process.Process.{Process}
use Rattle.gv_entry.specs.declared.process.Process.TheVariants.{Absent, Page}
use Rattle.gv_shape.specs.Shadow.{wanted}
use Rattle.gv_shape.specs.Counts.{uses, one_if, namings, above, names_node, naming, rank}
use Rattle.gv_sppgtt.specs.Sound.{Enters, IsBelow}
use Rattle.gv_shape.proofs.Totals.{total-same}
use Rattle.gv_sppgtt.specs.Grown.{Sketch, one_at, Kept, Made, Growing, Filled, Modest}
use Rattle.gv_sppgtt.proofs.Entered.{uses-entered, uses-other}
use Rattle.gv_shape.proofs.Levels.{naming-at, rank-below}

some_or_none : {A : Type 0} (o : Option A) (P : Type 0) → ((x : A) → o ≡ Some x → P) → (o ≡ None → P) → P
some_or_none (Some x) P some none = some x refl
some_or_none None P some none = none refl

pub kept-trans : (a b c : Sketch) → Kept a b → Kept b c → Kept a c
kept-trans a b c first second = record {
  pages = λ k f p is. second.pages k f p (first.pages k f p is);
  parents = λ k f. let x = first.parents k f in let y = second.parents k f in omega arith;
}

module _ (frames : ℕ) (m : Memory) (level frame i : ℕ) (a b c : Sketch) (small : i < 512) where
  -- one more word of a node that is being made
  pub growing-filled : a.pages level frame ≡ None → Growing frames m level frame i a b → Filled frames m level frame i b c → Growing frames m level frame (i + 1) a c
  growing-filled new g w = record {
    kept = kept-trans a b c g.kept w.kept;
    there = (g.there.0, w.kept.pages level frame g.there.0 g.there.1);
    same = λ k f p j is low.
        let differ : k ≡ level → f ≡ frame → j ≡ i → ⊥ = λ x y _. let clash : Some p ≡ None = sym is ∙ ap (λ z. a.pages z f) x ∙ ap (a.pages level) y ∙ new in cc in
        w.same k f p j (g.kept.pages k f p is) low differ ∙ g.same k f p j is low;
    fresh = λ k f p j none is low before. some_or_none (b.pages k f) _
        (λ q was.
        ⊎_elim
        (λ x. ⊎_elim
        (λ y. ⊎_elim
        (λ z. ap (λ r. c.readings r f j) x ∙ ap (λ r. c.readings level r j) y ∙ ap (c.readings level frame) z ∙ w.here ∙ sym (ap (λ r. wanted m r f j) x ∙ ap (λ r. wanted m level r j) y ∙ ap (wanted m level frame) z))
        (λ z. w.same k f q j was low (λ _ _ e. z e) ∙ g.fresh k f q j none was low (λ u v. let l = before u v in omega arith))
        (cases_eq j i))
        (λ y. w.same k f q j was low (λ _ e _. y e) ∙ g.fresh k f q j none was low (λ u v. absurd (y v)))
        (cases_eq f frame))
        (λ x. w.same k f q j was low (λ e _ _. x e) ∙ g.fresh k f q j none was low (λ u v. absurd (x u)))
        (cases_eq k level))
        (λ was. w.fresh k f p j was is low);
    later = λ j none past low. w.same level frame g.there.0 j g.there.1 low (λ _ _ e. let x = past in let y = e in omega arith) ∙ g.later j none (omega arith) low;
    upto = λ k f p none is. some_or_none (b.pages k f) _ (λ q was. g.upto k f q none was) (λ was. let l = w.upto k f p was is in omega arith);
    alive = λ k f p none is. some_or_none (b.pages k f) _ (λ q was. let x = g.alive k f q none was in let y = w.kept.parents k f in omega arith) (λ was. w.alive k f p was is);
    balanced = λ k f some. let x = g.balanced k f some in let y = w.balanced k f some in omega arith;
  }

-- a word that stays absent
pub filled-absent : (frames : ℕ) (m : Memory) (level frame index : ℕ) (a : Sketch) → a.readings level frame index ≡ Absent → wanted m level frame index ≡ Absent → Filled frames m level frame index a a
filled-absent frames m level frame index a was is = record {
  kept = record { pages = λ k f p h. h; parents = λ k f. omega arith };
  same = λ k f p i there low apart. refl;
  here = was ∙ sym is;
  fresh = λ k f p i none some low. let clash : None ≡ Some p = sym none ∙ some in cc;
  upto = λ k f p none some. let clash : None ≡ Some p = sym none ∙ some in cc;
  alive = λ k f p none some. let clash : None ≡ Some p = sym none ∙ some in cc;
  balanced = λ k f some. omega arith;
}

names_leaf : (k f : ℕ) (e : Process) (h : ℕ) (w : Bool) → e ≡ Page h w → one_if (names_node k f e) ≡ 0
names_leaf k f e h w is = ap (λ x. one_if (names_node k f x)) is

names_absent : (k f : ℕ) (e : Process) → e ≡ Absent → one_if (names_node k f e) ≡ 0
names_absent k f e is = ap (λ x. one_if (names_node k f x)) is

-- A word of a node is put in place of an absent one.
module _ (frames : ℕ) (m : Memory) (level frame index : ℕ) (e : Process) (a b c : Sketch) (low : frame < frames) (small : index < 512)
    (was : a.readings level frame index ≡ Absent) (is : wanted m level frame index ≡ e)
    (pages : c.pages ≡ b.pages) (parents : c.parents ≡ b.parents) (entered : Enters b.readings c.readings level frame index e) where
  uses_of : (k f : ℕ) → namings frames c.readings k f + (one_if (eqb (above k) level) * one_if (names_node k f (b.readings level frame index))) ≡ namings frames b.readings k f + (one_if (eqb (above k) level) * one_if (names_node k f e))
  uses_of k f = ⊎_elim
      (λ same.
      let t = eq-eqb (above k) level same in
      let u = uses-entered frames b.readings c.readings level frame index e entered low small (names_node k f) in
      rw t (subst (λ l. uses frames c.readings l (names_node k f) + 1 * one_if (names_node k f (b.readings level frame index)) ≡ uses frames b.readings l (names_node k f) + 1 * one_if (names_node k f e)) (sym same) (let v = u in omega arith)))
      (λ other.
      let t = ne_eqb (above k) level other in
      let u = uses-other frames b.readings c.readings level frame index e entered low small (names_node k f) (above k) other in
      rw t (rw u (omega arith)))
      (cases_eq (above k) level)

  -- a table, which was there or was made first
  pub filled-table : (h lower : ℕ) → e ≡ naming lower h → IsBelow frames level h lower → (n : ℕ) (there : a.pages level frame ≡ Some n) → Growing frames m lower h 512 a b → Filled frames m level frame index a c
  filled-table h lower table below n there g = record {
    kept = record {
      pages = λ k f p x. ap (λ q. q k f) pages ∙ g.kept.pages k f p x;
      parents = λ k f. subst (λ q. a.parents k f ≤ q k f) (sym parents) (g.kept.parents k f);
    };
    same = λ k f p i x l apart. entered.others k f i l apart ∙ g.same k f p i x l;
    here = entered.here ∙ sym is;
    fresh = λ k f p i none x l.
        let x' : b.pages k f ≡ Some p = ap (λ q. q k f) (sym pages) ∙ x in
        let up = g.upto k f p none x' in
        entered.others k f i l (λ at _ _. let z : rank k ≡ rank level = ap rank at in let r = nearer in omega arith) ∙ g.fresh k f p i none x' l (λ _ _. l);
    upto = λ k f p none x. let up = g.upto k f p none (ap (λ q. q k f) (sym pages) ∙ x) in let r = nearer in omega arith;
    alive = λ k f p none x. subst (λ q. 1 ≤ q k f) (sym parents) (g.alive k f p none (ap (λ q. q k f) (sym pages) ∙ x));
    balanced = λ k f one.
        let x = g.balanced k f one in
        let y = uses_of k f in
        let old : one_if (names_node k f (b.readings level frame index)) ≡ 0 = names_absent k f (b.readings level frame index) (g.same level frame n index there small ∙ was) in
        let new : one_if (names_node k f e) ≡ one_if (names_node k f (naming lower h)) = ap (λ r. one_if (names_node k f r)) table in
        let at : one_at lower h k f ≡ one_if (eqb (above k) level) * one_if (names_node k f (naming lower h)) = naming-at lower level h k f below.low below.six below.above below.four one in
        let p : c.parents k f ≡ b.parents k f = ap (λ q. q k f) parents in
        let z = rw (old, new) at y in
        omega arith;
  }
    where
      nearer : rank lower < rank level
      nearer = rank-below lower level below.low below.above below.high below.four

-- a leaf
module _ (frames : ℕ) (m : Memory) (level frame index h : ℕ) (w : Bool) (a c : Sketch) (low : frame < frames) (small : index < 512)
    (was : a.readings level frame index ≡ Absent) (is : wanted m level frame index ≡ Page h w)
    (pages : c.pages ≡ a.pages) (parents : c.parents ≡ a.parents) (entered : Enters a.readings c.readings level frame index (Page h w)) where
  same_uses : (k f : ℕ) → namings frames c.readings k f ≡ namings frames a.readings k f
  same_uses k f = ⊎_elim
      (λ same.
      let u = uses-entered frames a.readings c.readings level frame index (Page h w) entered low small (names_node k f) in
      let old : one_if (names_node k f (a.readings level frame index)) ≡ 0 = names_absent k f (a.readings level frame index) was in
      subst (λ l. uses frames c.readings l (names_node k f) ≡ uses frames a.readings l (names_node k f)) (sym same) (let v = u in omega arith))
      (λ other. uses-other frames a.readings c.readings level frame index (Page h w) entered low small (names_node k f) (above k) other)
      (cases_eq (above k) level)

  clash : (k f p : ℕ) → a.pages k f ≡ None → c.pages k f ≡ Some p → ⊥
  clash k f p none some = let e : None ≡ Some p = sym none ∙ ap (λ q. q k f) (sym pages) ∙ some in cc

  pub filled-leaf : Filled frames m level frame index a c
  filled-leaf = record {
    kept = record { pages = λ k f p x. ap (λ q. q k f) pages ∙ x; parents = λ k f. let e : c.parents k f ≡ a.parents k f = ap (λ q. q k f) parents in omega arith };
    same = λ k f p i x l apart. entered.others k f i l apart;
    here = entered.here ∙ sym is;
    fresh = λ k f p i none some l. absurd (clash k f p none some);
    upto = λ k f p none some. absurd (clash k f p none some);
    alive = λ k f p none some. absurd (clash k f p none some);
    balanced = λ k f one. let e : c.parents k f ≡ a.parents k f = ap (λ q. q k f) parents in let u = same_uses k f in omega arith;
  }

-- a node that was just made
module _ (frames : ℕ) (m : Memory) (level frame page : ℕ) (a b : Sketch) (none : a.pages level frame ≡ None) (no_parent : a.parents level frame ≡ 0) (absent : (i : ℕ) → a.readings level frame i ≡ Absent) (made : Made level frame page a b) where
  cases : (k f : ℕ) → ((k ≡ level) × (f ≡ frame)) ⊎ (k ≡ level → f ≡ frame → ⊥)
  cases k f = ⊎_elim (λ x. ⊎_elim (λ y. inl (x, y)) (λ y. inr (λ _ e. y e)) (cases_eq f frame)) (λ x. inr (λ e _. x e)) (cases_eq k level)

  is_new : (k f p : ℕ) → a.pages k f ≡ None → b.pages k f ≡ Some p → (k ≡ level) × (f ≡ frame)
  is_new k f p was is = ⊎_elim (λ x. x) (λ apart. let clash : None ≡ Some p = sym was ∙ sym (made.pages k f apart) ∙ is in absurd (never clash)) (cases k f)
    where
      never : {x : ℕ} → None ≡ Some x → ⊥
      never e = cc

  same_word : (k f i : ℕ) → i < 512 → b.readings k f i ≡ a.readings k f i
  same_word k f i small = ⊎_elim
      (λ x. ap (λ z. b.readings z f i) x.0 ∙ ap (λ z. b.readings level z i) x.1 ∙ made.empty i small ∙ sym (ap (λ z. a.readings z f i) x.0 ∙ ap (λ z. a.readings level z i) x.1 ∙ absent i))
      (made.readings k f i small) (cases k f)

  count : (k f : ℕ) → b.parents k f ≡ a.parents k f + one_at level frame k f
  count k f = ⊎_elim
      (λ x.
      let one : one_at level frame k f ≡ 1 = here k f x.0 x.1 in
      let p : b.parents k f ≡ 1 = ap (λ z. b.parents z f) x.0 ∙ ap (b.parents level) x.1 ∙ made.parent in
      let q : a.parents k f ≡ 0 = ap (λ z. a.parents z f) x.0 ∙ ap (a.parents level) x.1 ∙ no_parent in
      omega arith)
      (λ apart. let zero' : one_at level frame k f ≡ 0 = off k f apart in let p = made.parents k f apart in omega arith)
      (cases k f)
    where
      here : (k f : ℕ) → k ≡ level → f ≡ frame → one_at level frame k f ≡ 1
      here k f x y = grind (arith, nat_tests)

      both : (b : Bool) → one_if (b && false) ≡ 0
      both true = refl
      both false = refl

      off : (k f : ℕ) → (k ≡ level → f ≡ frame → ⊥) → one_at level frame k f ≡ 0
      off k f apart = ⊎_elim (λ x. ⊎_elim (λ y. absurd (apart x y)) (λ y. let z = ne_eqb f frame y in rw z (both (eqb k level))) (cases_eq f frame)) (λ x. let z = ne_eqb k level x in rw z refl) (cases_eq k level)

  pub growing-made : Growing frames m level frame 0 a b
  growing-made = record {
    kept = record {
      pages = λ k f p is. ⊎_elim (λ x. let clash : None ≡ Some p = sym none ∙ sym (ap (λ z. a.pages z f) x.0 ∙ ap (a.pages level) x.1) ∙ is in absurd (never clash)) (λ apart. made.pages k f apart ∙ is) (cases k f);
      parents = λ k f. let c = count k f in omega arith;
    };
    there = (page, made.here);
    same = λ k f p i is small. same_word k f i small;
    fresh = λ k f p i was is small before. let pair = is_new k f p was is in let x = before pair.0 pair.1 in absurd (omega arith);
    later = λ i was past small. made.empty i small;
    upto = λ k f p was is. let x : rank k ≡ rank level = ap rank (is_new k f p was is).0 in omega arith;
    alive = λ k f p was is. let pair = is_new k f p was is in let e : b.parents k f ≡ 1 = ap (λ z. b.parents z f) pair.0 ∙ ap (b.parents level) pair.1 ∙ made.parent in omega arith;
    balanced = λ k f some.
        let c = count k f in
        let u : namings frames b.readings k f ≡ namings frames a.readings k f = total-same frames _ _ (λ t _. total-same 512 _ _ (λ i l. ap (λ r. one_if (names_node k f r)) (same_word (above k) t i l))) in
        omega arith;
  }
    where
      never : {x : ℕ} → None ≡ Some x → ⊥
      never e = cc

-- while a node is made, those below it have no other parents
pub modest-below : (frames : ℕ) (m : Memory) (level frame i h lower : ℕ) (a b : Sketch) → Growing frames m level frame i a b → Modest frames level a → IsBelow frames level h lower → Modest frames lower b
modest-below frames m level frame i h lower a b g modest below k f one near =
    let nearer = rank-below lower level below.low below.above below.high below.four in
    let x = g.balanced k f one in
    let y = modest k f one (omega arith) in
    let off : one_at level frame k f ≡ 0 = (let n = ne_eqb k level (λ e. let r : rank k ≡ rank level = ap rank e in omega arith) in rw n refl) in
    omega arith

-- there is room for one more word that names a node that was acquired
pub room-grown : (frames : ℕ) (m : Memory) (level h lower : ℕ) (a b : Sketch) → Growing frames m lower h 512 a b → ((k f : ℕ) → 1 ≤ k → namings frames a.readings k f ≤ a.parents k f) → IsBelow frames level h lower
    → (k f : ℕ) → 1 ≤ k → above k ≡ level → namings frames b.readings k f + one_if (names_node k f (naming lower h)) ≤ b.parents k f
room-grown frames m level h lower a b g counted below k f one up =
    let x = g.balanced k f one in
    let y = counted k f one in
    let at = naming-at lower level h k f below.low below.six below.above below.four one in
    let t = eq-eqb (above k) level up in
    let same : one_if (eqb k lower && eqb f h) ≡ one_if (names_node k f (naming lower h)) = at ∙ rw t (let z = one_if (names_node k f (naming lower h)) in omega arith) in
    omega arith
