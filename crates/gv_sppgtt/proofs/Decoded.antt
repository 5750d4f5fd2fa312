-- What a word stands for.
use Rattle.std.proofs.Common.{ℕ, ◌+◌, ◌-◌, ◌/◌, ◌%◌, ◌≤◌, ◌<◌, ◌≡◌, Bool, true, false, eqb, List, length, get_or, set, get_or-set_same, get_or-set_other, refl, sym, ap, ◌∙◌, arith, ⊎_elim}
use Rattle.std.proofs.lemmas.Bool.{cases_eq, eq-eqb, ne_eqb}
use Rattle.std.proofs.lemmas.Bool.Decides.{nat_tests}
use Rattle.std.proofs.lemmas.List.{get_or_default}
use Rattle.gv_entry.specs.declared.process.Process.TheVariants.{Absent, Page}
use Rattle.gv_shape.specs.Shadow.{leaf_word, has_leaves}
use Rattle.gv_shape.specs.Counts.{one_if}
use Rattle.gv_sppgtt.specs.Sound.{decode}

pub decode-even : (owners : List ℕ) (level word : ℕ) → word % 2 ≡ 0 → decode owners level word ≡ Absent
decode-even owners level word h = rw h refl

pub decode-odd : (owners : List ℕ) (word : ℕ) → word % 2 ≡ 1 → decode owners 1 word ≡ Page (get_or owners (word / 4096) 0) (eqb (word / 4 % 2) 1)
decode-odd owners word h = rw h refl

pub leaf-odd : (p : ℕ) (w g : Bool) → leaf_word p w g % 2 ≡ 1
leaf-odd p true true = omega arith
leaf-odd p true false = omega arith
leaf-odd p false g = omega arith

pub leaf-page : (p : ℕ) (w g : Bool) → leaf_word p w g / 4096 ≡ p
leaf-page p true true = omega arith
leaf-page p true false = omega arith
leaf-page p false g = omega arith

pub leaf-wanted : (p : ℕ) (w g : Bool) → eqb (leaf_word p w g / 4 % 2) 1 ≡ w
leaf-wanted p true true = grind (arith, nat_tests)
leaf-wanted p true false = grind (arith, nat_tests)
leaf-wanted p false g = grind (arith, nat_tests)

-- one more or one less at one frame
pub one_less : (xs ys : List ℕ) (f h : ℕ) → f < length xs → 1 ≤ get_or xs f 0 → ys ≡ set xs f (get_or xs f 0 - 1) → get_or ys h 0 + one_if (eqb f h) ≡ get_or xs h 0
one_less xs ys f h within some is =
    ap (λ (l : List ℕ). get_or l h 0 + one_if (eqb f h)) is
    ∙ ⊎_elim
    (λ same. let at = get_or-set_same xs f (get_or xs f 0 - 1) 0 within in let e = eq-eqb f h (sym same) in let n : get_or xs h 0 ≡ get_or xs f 0 = ap (λ k. get_or xs k 0) same in
    ap (λ k. get_or (set xs f (get_or xs f 0 - 1)) k 0 + one_if (eqb f h)) same ∙ rw (at, e) (omega arith))
    (λ other. let at = get_or-set_other xs f h (get_or xs f 0 - 1) 0 other in let e = ne_eqb f h (λ s. other (sym s)) in rw (at, e) (omega arith))
    (cases_eq h f)

pub one_more : (xs ys : List ℕ) (f h : ℕ) → f < length xs → ys ≡ set xs f (get_or xs f 0 + 1) → get_or ys h 0 ≡ get_or xs h 0 + one_if (eqb f h)
one_more xs ys f h within is =
    ap (λ (l : List ℕ). get_or l h 0) is
    ∙ ⊎_elim
    (λ same. let at = get_or-set_same xs f (get_or xs f 0 + 1) 0 within in let e = eq-eqb f h (sym same) in let n : get_or xs h 0 ≡ get_or xs f 0 = ap (λ k. get_or xs k 0) same in
    ap (λ k. get_or (set xs f (get_or xs f 0 + 1)) k 0) same ∙ rw (at, e) (omega arith))
    (λ other. let at = get_or-set_other xs f h (get_or xs f 0 + 1) 0 other in let e = ne_eqb f h (λ s. other (sym s)) in rw (at, e) (omega arith))
    (cases_eq h f)

pub decode-read : (owners : List ℕ) (word x : ℕ) → word % 2 ≡ 1 → word / 4096 < length owners → x ≡ get_or owners (word / 4096) x → decode owners 1 word ≡ Page x (eqb (word / 4 % 2) 1)
decode-read owners word x odd within is = decode-odd owners word odd ∙ ap (λ f. Page f (eqb (word / 4 % 2) 1)) (get_or_default owners (word / 4096) 0 x within ∙ sym is)

-- a word of leaves is read alike at each of their levels
pub decode-leaf : (owners : List ℕ) (level word : ℕ) → has_leaves level ≡ true → decode owners level word ≡ decode owners 1 word
decode-leaf owners level word h = rw h refl
