-- A word of memory changes; a root comes; a root goes.
use Rattle.std.proofs.Common.{ℕ, ◌+◌, ◌≤◌, ◌≡◌, Bool, true, false, not, ◌&&◌, ◌||◌, eqb, List, ◌∷◌, Option, None, Some, refl, sym, ap, ◌∙◌, arith, ⊎_elim}
use Rattle.std.proofs.lemmas.Bool.{cases_eq, eq-eqb, ne_eqb, eqb-true}
use Rattle.gv_types.specs.Memory.{Memory}
use Rattle.gv_shape.specs.Counts.{one_if, is_among}
use Rattle.gv_sppgtt.specs.Grown.{Sketch, one_at, Growing, Dropped, Rests}
use Rattle.gv_shape.specs.Shadow.{wanted}

pub rests-changed : (frames : ℕ) (m after : Memory) (roots : List ℕ) (x y frame index : ℕ) (a : Sketch) → ((k f p : ℕ) → a.pages k f ≡ Some p → 1 ≤ k)
    → ((k f i : ℕ) → (k ≤ 4 → f ≡ frame → i ≡ index → ⊥) → wanted after k f i ≡ wanted m k f i) → Rests frames m roots 0 x y a → Rests frames after roots 4 frame index a
rests-changed frames m after roots x y frame index a low others r = record {
  counted = r.counted;
  alive = r.alive;
  same = λ k f p i is small apart. let l = low k f p is in r.same k f p i is small (λ down _ _. let z = l in omega arith) ∙ sym (others k f i apart);
}

some_or_none : {A : Type 0} (o : Option A) (P : Type 0) → ((x : A) → o ≡ Some x → P) → (o ≡ None → P) → P
some_or_none (Some x) P some none = some x refl
some_or_none None P some none = none refl

split_new : (four here old : Bool) → (four ≡ true → here ≡ true → old ≡ false) → one_if (four && (here || old)) ≡ one_if (four && old) + one_if (four && here)
split_new true true true apart = let e = apart refl refl in cc
split_new true true false apart = omega arith
split_new true false true apart = omega arith
split_new true false false apart = omega arith
split_new false here old apart = omega arith

pub rests-created : (frames : ℕ) (m : Memory) (roots : List ℕ) (x y root : ℕ) (a b : Sketch) → is_among roots root ≡ false → Growing frames m 4 root 512 a b → Rests frames m roots 0 x y a → Rests frames m (root ∷ roots) 0 x y b
rests-created frames m roots x y root a b new g r = record {
  counted = λ k f one.
      let c = r.counted k f one in
      let h = g.balanced k f one in
      let s = split_new (eqb k 4) (eqb root f) (is_among roots f) (λ _ e. ap (is_among roots) (sym (eqb-true root f e)) ∙ new) in
      let at : one_at 4 root k f ≡ one_if (eqb k 4 && eqb root f) = ap (λ t. one_if (eqb k 4 && t)) (same_eqb f root) in
      omega arith;
  alive = λ k f p is. some_or_none (a.pages k f) _ (λ q was. let o = r.alive k f q was in let up = g.kept.parents k f in omega arith) (λ none. g.alive k f p none is);
  same = λ k f p i is small apart. some_or_none (a.pages k f) _ (λ q was. g.same k f q i was small ∙ r.same k f q i was small apart) (λ none. g.fresh k f p i none is small (λ _ _. small));
}
  where
    same_eqb : (a b : ℕ) → eqb a b ≡ eqb b a
    same_eqb a b = ⊎_elim (λ e. eq-eqb a b e ∙ sym (eq-eqb b a (sym e))) (λ n. ne_eqb a b n ∙ sym (ne_eqb b a (λ e. n (sym e)))) (cases_eq a b)

split_old : (four here old now : Bool) → now ≡ (not here && old) → (here ≡ true → old ≡ true) → one_if (four && now) + one_if (four && here) ≡ one_if (four && old)
split_old true true true now is there = rw is refl
split_old true true false now is there = let e = there refl in cc
split_old true false true now is there = rw is refl
split_old true false false now is there = rw is refl
split_old false here old now is there = refl

pub rests-destroyed : (frames : ℕ) (m : Memory) (roots rest : List ℕ) (x y root : ℕ) (a b : Sketch) → is_among roots root ≡ true → ((f : ℕ) → is_among rest f ≡ (not (eqb f root) && is_among roots f)) → Dropped frames 4 root a b → Rests frames m roots 0 x y a → Rests frames m rest 0 x y b
rests-destroyed frames m roots rest x y root a b was left g r = record {
  counted = λ k f one.
      let c = r.counted k f one in
      let h = g.balanced k f one in
      let s = split_old (eqb k 4) (eqb f root) (is_among roots f) (is_among rest f) (left f) (λ e. ap (is_among roots) (eqb-true f root e) ∙ was) in
      omega arith;
  alive = λ k f p is. g.alive k f p is (r.alive k f p (g.within k f p is));
  same = λ k f p i is small apart. g.same k f p i is small ∙ r.same k f p i (g.within k f p is) small apart;
}
