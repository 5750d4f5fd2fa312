-- One word of a table changes: what it names is acquired, the word is written, and what it named is released.
use Rattle.std.proofs.Common.{ℕ, ◌+◌, ◌*◌, ◌-◌, ◌≤◌, ◌<◌, ◌≡◌, ◌≢◌, eqb, List, Option, None, Some, refl, sym, ap, ◌∙◌, subst, arith, ⊎_elim}
use Rattle.std.proofs.lemmas.Bool.{cases_eq, eq-eqb, ne_eqb, cases_lt}
use Rattle.gv_types.specs.Memory.{Memory}
use Rattle.gv_entry.specs.declared.process.Process.{Process}
use Rattle.gv_shape.specs.Shadow.{wanted}
use Rattle.gv_shape.specs.Counts.{uses, one_if, above, names_node, naming, rank, namings}
use Rattle.gv_sppgtt.specs.Sound.{Enters, IsBelow}
use Rattle.gv_sppgtt.specs.Grown.{Sketch, Growing, Dropped, Rests, Acquired, Released}
use Rattle.gv_sppgtt.proofs.Entered.{uses-entered, uses-other}
use Rattle.gv_shape.proofs.Levels.{naming-at, rank-below}

some_or_none : {A : Type 0} (o : Option A) (P : Type 0) → ((x : A) → o ≡ Some x → P) → (o ≡ None → P) → P
some_or_none (Some x) P some none = some x refl
some_or_none None P some none = none refl

pub acquired-table : (frames : ℕ) (m : Memory) (level h lower : ℕ) (a b : Sketch) → IsBelow frames level h lower → Growing frames m lower h 512 a b → Acquired frames m level (naming lower h) a b
acquired-table frames m level h lower a b below g = record {
  kept = g.kept;
  same = g.same;
  fresh = λ k f p i none is low. let up = g.upto k f p none is in let near = rank-below lower level below.low below.above below.high below.four in (omega arith, g.fresh k f p i none is low (λ _ _. low));
  alive = g.alive;
  balanced = λ k f one. g.balanced k f one ∙ ap (λ n. a.parents k f + namings frames b.readings k f + n) (naming-at lower level h k f below.low below.six below.above below.four one);
}

pub released-table : (frames level h lower : ℕ) (a b : Sketch) → IsBelow frames level h lower → Dropped frames lower h a b → Released frames level (naming lower h) a b
released-table frames level h lower a b below g = record {
  within = g.within;
  same = g.same;
  alive = g.alive;
  balanced = λ k f one. ap (λ n. b.parents k f + namings frames a.readings k f + n) (sym (naming-at lower level h k f below.low below.six below.above below.four one)) ∙ g.balanced k f one;
}

-- what names no table is neither acquired nor released
pub acquired-none : (frames : ℕ) (m : Memory) (level : ℕ) (e : Process) (a : Sketch) → ((k f : ℕ) → one_if (names_node k f e) ≡ 0) → Acquired frames m level e a a
acquired-none frames m level e a none = record {
  kept = record { pages = λ k f p is. is; parents = λ k f. omega arith };
  same = λ k f p i is low. refl;
  fresh = λ k f p i no is low. let clash : None ≡ Some p = sym no ∙ is in cc;
  alive = λ k f p no is. let clash : None ≡ Some p = sym no ∙ is in cc;
  balanced = λ k f one. let z = none k f in rw z (omega arith);
}

pub released-none : (frames level : ℕ) (e : Process) (a : Sketch) → ((k f : ℕ) → one_if (names_node k f e) ≡ 0) → Released frames level e a a
released-none frames level e a none = record {
  within = λ k f p is. is;
  same = λ k f p i is low. refl;
  alive = λ k f p is was. was;
  balanced = λ k f one. let z = none k f in rw z (omega arith);
}

-- the three steps
module _ (frames : ℕ) (m : Memory) (roots : List ℕ) (level frame index n : ℕ) (e old : Process) (a b c z : Sketch) (low : frame < frames) (small : index < 512)
    (there : a.pages level frame ≡ Some n) (is : wanted m level frame index ≡ e) (was : a.readings level frame index ≡ old)
    (acquired : Acquired frames m level e a b)
    (pages : c.pages ≡ b.pages) (parents : c.parents ≡ b.parents) (entered : Enters b.readings c.readings level frame index e)
    (released : Released frames level old c z) (rests : Rests frames m roots level frame index a) where
  uses_of : (k f : ℕ) → namings frames c.readings k f + (one_if (eqb (above k) level) * one_if (names_node k f old)) ≡ namings frames b.readings k f + (one_if (eqb (above k) level) * one_if (names_node k f e))
  uses_of k f = ⊎_elim
      (λ same.
      let t = eq-eqb (above k) level same in
      let u = uses-entered frames b.readings c.readings level frame index e entered low small (names_node k f) in
      let o : one_if (names_node k f (b.readings level frame index)) ≡ one_if (names_node k f old) = ap (λ r. one_if (names_node k f r)) (acquired.same level frame n index there small ∙ was) in
      rw t (subst (λ l. uses frames c.readings l (names_node k f) + 1 * one_if (names_node k f old) ≡ uses frames b.readings l (names_node k f) + 1 * one_if (names_node k f e)) (sym same) (let v = u in omega arith)))
      (λ other.
      let t = ne_eqb (above k) level other in
      let u = uses-other frames b.readings c.readings level frame index e entered low small (names_node k f) (above k) other in
      rw t (rw u (omega arith)))
      (cases_eq (above k) level)

  -- afterwards only the levels below are left to do
  pub rests-relinked : Rests frames m roots (level - 1) frame index z
  rests-relinked = record {
    counted = λ k f one.
        let x = rests.counted k f one in
        let y = acquired.balanced k f one in
        let u = uses_of k f in
        let r = released.balanced k f one in
        let p : c.parents k f ≡ b.parents k f = ap (λ q. q k f) parents in
        omega arith;
    alive = λ k f p here.
        let at_b : b.pages k f ≡ Some p = ap (λ q. q k f) (sym pages) ∙ released.within k f p here in
        released.alive k f p here (subst (λ q. 1 ≤ q k f) (sym parents) (some_or_none (a.pages k f) _
        (λ q before. let o = rests.alive k f q before in let up = acquired.kept.parents k f in omega arith)
        (λ none. acquired.alive k f p none at_b)));
    same = λ k f p i here l apart.
        let at_b : b.pages k f ≡ Some p = ap (λ q. q k f) (sym pages) ∙ released.within k f p here in
        let last = released.same k f p i here l in
        ⊎_elim
        (λ x. ⊎_elim
        (λ y. ⊎_elim
        (λ w. last ∙ ap (λ q. c.readings q f i) x ∙ ap (λ q. c.readings level q i) y ∙ ap (c.readings level frame) w ∙ entered.here ∙ sym is
        ∙ sym (ap (λ q. wanted m q f i) x ∙ ap (λ q. wanted m level q i) y ∙ ap (wanted m level frame) w))
        (λ w. last ∙ entered.others k f i l (λ _ _ q. w q) ∙ rest k f p i at_b l (λ _ _ q. w q))
        (cases_eq i index))
        (λ y. last ∙ entered.others k f i l (λ _ q _. y q) ∙ rest k f p i at_b l (λ _ q _. y q))
        (cases_eq f frame))
        (λ x. last ∙ entered.others k f i l (λ q _ _. x q) ∙ rest k f p i at_b l (λ up q w. apart (below k x up) q w))
        (cases_eq k level);
  }
    where
      below : (k : ℕ) → k ≢ level → k ≤ level → k ≤ level - 1
      below k other up = ⊎_elim (λ lt. omega arith) (λ ge. absurd (other (omega arith))) (cases_lt k level)

      rest : (k f p i : ℕ) → b.pages k f ≡ Some p → i < 512 → (k ≤ level → f ≡ frame → i ≡ index → ⊥) → b.readings k f i ≡ wanted m k f i
      rest k f p i here l apart = some_or_none (a.pages k f) _
          (λ q before. acquired.same k f q i before l ∙ rests.same k f q i before l apart)
          (λ none. (acquired.fresh k f p i none here l).1)

-- a level at which the frame has no node
pub rests-skipped : (frames : ℕ) (m : Memory) (roots : List ℕ) (level frame index : ℕ) (a : Sketch) → a.pages level frame ≡ None → Rests frames m roots level frame index a → Rests frames m roots (level - 1) frame index a
rests-skipped frames m roots level frame index a none r = record {
  counted = r.counted;
  alive = r.alive;
  same = λ k f p i is l apart. r.same k f p i is l (λ up x y. ⊎_elim
      (λ lt. apart (omega arith) x y)
      (λ ge. let at : k ≡ level = omega arith in let clash : Some p ≡ None = sym is ∙ ap (λ z. a.pages z f) at ∙ ap (a.pages level) x ∙ none in never clash)
      (cases_lt k level));
}
  where
    never : {x : ℕ} → Some x ≡ None → ⊥
    never e = cc

-- what is acquired stands below
pub acquired-above : (frames : ℕ) (m : Memory) (level : ℕ) (e : Process) (a b : Sketch) → Acquired frames m level e a b → (k f : ℕ) → rank level ≤ rank k → b.pages k f ≡ a.pages k f
acquired-above frames m level e a b g k f up = some_or_none (a.pages k f) _
    (λ p is. g.kept.pages k f p is ∙ sym is)
    (λ none. some_or_none (b.pages k f) _
    (λ p is. let x = (g.fresh k f p 0 none is (omega arith)).0 in absurd (omega arith))
    (λ gone. gone ∙ sym none))
