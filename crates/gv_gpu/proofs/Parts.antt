-- Laws of parts: a change of one part leaves each part that is apart from it, and is a change of
-- each part that it is within.
use Rattle.std.proofs.Common.{◌≡◌, ℕ, Bool, true, false, [], None, refl, ap, sym, ◌∙◌, cond}
use Rattle.gv_gpu.specs.Device.{Device}
use Rattle.gv_gpu.specs.Part.{Part, outside, inside, Apart, Within}

-- what a part of x leaves, seen by another
seen : {A : Type 0} (a b : Bool) (x none : A) → (a ≡ true → b ≡ false) → cond b (cond a none x) none ≡ cond b x none
seen true true x none h = let e = h refl in cc
seen true false x none h = refl
seen false true x none h = refl
seen false false x none h = refl

-- a part is not changed by leaving out another
pub inside-outside : (p q : Part) (d : Device) → Apart p q → inside q (outside p d) ≡ inside q d
inside-outside p q d apart = λ i. record (inside q d) {
  label = λ n. page n (d.label n) None i;
  words = λ n. page n (d.words n) [] i;
  global = λ n. seen (p.entry n) (q.entry n) (d.global n) 0 (apart.entry n) i;
  general = λ e. seen (p.engine e) (q.engine e) (d.general e) (λ _. 0) (apart.engine e) i;
  loaded = λ e. seen (p.engine e) (q.engine e) (d.loaded e) None (apart.engine e) i;
  spare = seen p.spare q.spare d.spare 0 apart.spare i;
}
  where
    by_label : {A : Type 0} (n : ℕ) (b : Bool) (x none : A) → p.page n (d.label n) ≡ b → cond (q.page n (cond b None (d.label n))) (cond b none x) none ≡ cond (q.page n (d.label n)) x none
    by_label n true x none is = let dead = apart.dead n in let other = apart.page n (d.label n) is in rw (dead, other) refl
    by_label n false x none is = refl

    page : {A : Type 0} (n : ℕ) (x none : A) → cond (q.page n (cond (p.page n (d.label n)) None (d.label n))) (cond (p.page n (d.label n)) none x) none ≡ cond (q.page n (d.label n)) x none
    page n x none = by_label n (p.page n (d.label n)) x none refl

-- What changes one part alone leaves the others.
pub inside-kept : (p q : Part) (d e : Device) → Apart p q → outside p e ≡ outside p d → inside q e ≡ inside q d
inside-kept p q d e apart same = sym (inside-outside p q e apart) ∙ ap (inside q) same ∙ inside-outside p q d apart

-- what a part of x leaves, without a larger part
lost : {A : Type 0} (a b : Bool) (x none : A) → (a ≡ true → b ≡ true) → cond b none (cond a none x) ≡ cond b none x
lost true true x none h = refl
lost true false x none h = let e = h refl in cc
lost false true x none h = refl
lost false false x none h = refl

-- the device without a part, from the device without a smaller one
pub outside-within : (p w : Part) (d : Device) → Within p w → outside w (outside p d) ≡ outside w d
outside-within p w d within = λ i. record (outside w d) {
  label = λ n. page n (d.label n) None i;
  words = λ n. page n (d.words n) [] i;
  global = λ n. lost (p.entry n) (w.entry n) (d.global n) 0 (within.entry n) i;
  general = λ e. lost (p.engine e) (w.engine e) (d.general e) (λ _. 0) (within.engine e) i;
  loaded = λ e. lost (p.engine e) (w.engine e) (d.loaded e) None (within.engine e) i;
  spare = lost p.spare w.spare d.spare 0 within.spare i;
}
  where
    same : {A : Type 0} (b : Bool) (none : A) → cond b none none ≡ none
    same true none = refl
    same false none = refl

    by_label : {A : Type 0} (n : ℕ) (b : Bool) (x none : A) → p.page n (d.label n) ≡ b → cond (w.page n (cond b None (d.label n))) none (cond b none x) ≡ cond (w.page n (d.label n)) none x
    by_label n true x none is = let more = within.page n (d.label n) is in rw more (same (w.page n None) none)
    by_label n false x none is = refl

    page : {A : Type 0} (n : ℕ) (x none : A) → cond (w.page n (cond (p.page n (d.label n)) None (d.label n))) none (cond (p.page n (d.label n)) none x) ≡ cond (w.page n (d.label n)) none x
    page n x none = by_label n (p.page n (d.label n)) x none refl

-- What changes a part changes no more than a larger one.
pub outside-widen : (p r w : Part) (d e : Device) → Within p w → Within r w → outside r e ≡ outside p d → outside w e ≡ outside w d
outside-widen p r w d e before after same = sym (outside-within r w e after) ∙ ap (outside w) same ∙ outside-within p w d before
