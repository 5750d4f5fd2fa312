-- General registers that are taken out and put in, one by one.
use Rattle.std.proofs.Common.{◌≡◌, ℕ, ◌+◌, Bool, true, false, List, cond, eqb, ltb, refl, sym, ap, ◌∙◌, arith, get_or}
use Rattle.std.proofs.lemmas.Bool.{eq-eqb}
use Rattle.std.proofs.lemmas.Bool.Decides.{nat_tests}
use Rattle.gv_types.specs.Maps.{put}
use Rattle.gv_gpu.specs.Device.{Device, with_engine_general}

-- the device with so many of these registers
abbrev pub with_first : Device → ℕ → List ℕ → ℕ → Device
with_first d engine kept n = record d { general = put d.general engine (λ r. cond (ltb r n) (get_or kept r 0) (d.general engine r)) }

none-at : (d : Device) (engine : ℕ) (kept : List ℕ) (k r : ℕ) (b : Bool) → eqb k engine ≡ b → d.general k r ≡ cond b (λ r. cond (ltb r 0) (get_or kept r 0) (d.general engine r)) (d.general k) r
none-at d engine kept k r true is = let same : k ≡ engine = grind (arith, nat_tests) in let no : ltb r 0 ≡ false = grind (arith, nat_tests) in
    ap (λ k. d.general k r) same ∙ sym (ap (λ b. cond b (get_or kept r 0) (d.general engine r)) no)
none-at d engine kept k r false is = refl

pub first-none : (d : Device) (engine : ℕ) (kept : List ℕ) → d ≡ with_first d engine kept 0
first-none d engine kept = λ i. record d { general = λ k r. none-at d engine kept k r (eqb k engine) refl i }

one-more : (f : ℕ → ℕ) (kept : List ℕ) (n r : ℕ) → cond (eqb r n) (get_or kept n 0) (cond (ltb r n) (get_or kept r 0) (f r)) ≡ cond (ltb r (n + 1)) (get_or kept r 0) (f r)
one-more f kept n r = by (eqb r n) (ltb r n) (ltb r (n + 1)) refl refl refl
  where
    by : (a b c : Bool) → eqb r n ≡ a → ltb r n ≡ b → ltb r (n + 1) ≡ c → cond a (get_or kept n 0) (cond b (get_or kept r 0) (f r)) ≡ cond c (get_or kept r 0) (f r)
    by true b true x y z = let same : n ≡ r = grind (arith, nat_tests) in ap (λ k. get_or kept k 0) same
    by true b false x y z = absurd (grind (arith, nat_tests))
    by false true true x y z = refl
    by false true false x y z = absurd (grind (arith, nat_tests))
    by false false true x y z = absurd (grind (arith, nat_tests))
    by false false false x y z = refl

more-at : (d : Device) (engine : ℕ) (kept : List ℕ) (n k r : ℕ) (b : Bool) → eqb k engine ≡ b
    → cond b (put (put d.general engine (λ r. cond (ltb r n) (get_or kept r 0) (d.general engine r)) engine) n (get_or kept n 0)) (put d.general engine (λ r. cond (ltb r n) (get_or kept r 0) (d.general engine r)) k) r
    ≡ cond b (λ r. cond (ltb r (n + 1)) (get_or kept r 0) (d.general engine r)) (d.general k) r
more-at d engine kept n k r true is = ap (λ b. cond (eqb r n) (get_or kept n 0) (cond b (λ r. cond (ltb r n) (get_or kept r 0) (d.general engine r)) (d.general engine) r)) (eq-eqb engine engine refl) ∙ one-more (d.general engine) kept n r
more-at d engine kept n k r false is = ap (λ b. cond b (λ r. cond (ltb r n) (get_or kept r 0) (d.general engine r)) (d.general k) r) is

pub first-more : (d : Device) (engine : ℕ) (kept : List ℕ) (n : ℕ) → with_engine_general (with_first d engine kept n) engine n (get_or kept n 0) ≡ with_first d engine kept (n + 1)
first-more d engine kept n = λ i. record d { general = λ k r. more-at d engine kept n k r (eqb k engine) refl i }
