-- Resets of several engines, one after another.
use Rattle.std.proofs.Common.{◌≡◌, ℕ, ◌+◌, ◌<◌, ◌≤◌, ◌&&◌, ◌||◌, Bool, true, false, eqb, ltb, List, refl, sym, ap, ◌∙◌, subst, arith, Result, Ok, Err}
use Rattle.std.specs.Result.{OnErr}
use Rattle.std.proofs.Math.Bool.{and-false, or-false, or-true}
use Rattle.std.proofs.lemmas.Bool.{false≢true}
use Rattle.std.proofs.lemmas.Bool.Decides.{nat_tests}
use Rattle.gv_gpu.specs.Device.{Device, counted, with_faults}
use Rattle.gv_gpu.specs.Part.{guest_part, outside}
use Rattle.gv_gtt.specs.Gtt.{memory_of, number_of, ranges_of}
use Rattle.gv_types.specs.declared.reply.Stop.{Stop}
use Rattle.gv_types.specs.declared.reply.Stop.TheVariants.{OutOfMemory}
use Rattle.gv_private.specs.Registers.{is_named as named_at}
use Rattle.gv_vgpu.specs.Changes.{Stops, own_live}
use Rattle.gv_vgpu.specs.Vgpu.{engine_at, element_in}
use Rattle.gv_vgpu.specs.Reset.{AreReset, IsReset, are_below, are_named_below, zero_engine}
use Rattle.gv_vgpu.specs.Standing.{Occupies}
use Rattle.gv_vgpu.specs.declared.vgpu.Vgpu.{Vgpu}
use Rattle.gv_vgpu.proofs.Copies.{comes-none, comes-then}
use Rattle.gv_vgpu.proofs.Resets.{one-reset}
use Rattle.gv_vgpu.proofs.Own.{outside-then}
use Rattle.gv_vgpu.proofs.Same.{moves-none, moves-then}

or-second : (a b : Bool) → (a || b) ≡ true → b ≡ false → a ≡ true
or-second true b is isnt = refl
or-second false b is isnt = cc

neither : (a b : Bool) → (a || b) ≡ false → (a ≡ false) × (b ≡ false)
neither true b is = cc
neither false b is = (refl, is)

-- at first no engine was reset
pub none-reset : (here : ℕ → Bool) (d : Device) (v : Vgpu) → Occupies d v here → AreReset (λ k. false) here d d v v
none-reset here d v occupies = record {
  gtt = refl;
  mmio = refl;
  failsafe = refl;
  own = λ k below is. absurd (false≢true is);
  others = λ k is. refl;
  zeros = λ k n is own. absurd (false≢true is);
  registers = λ k is. refl;
  work = λ k below is. refl;
  stands = λ k below is stands. stands;
  occupies = occupies;
  translates = λ translates. translates;
  memory = refl;
  outside = refl;
  live = moves-none d (own_live v) (own_live v) refl;
  copies = comes-none d v v (λ k. refl);
}

module _ (p q here : ℕ → Bool) (d e f : Device) (a b c : Vgpu) (first : AreReset p here d e a b) (second : AreReset q here e f b c) where
  own-then : (k : ℕ) (x : Bool) → q k ≡ x → k < 4 → (p k || x) ≡ true → engine_at c k ≡ zero_engine
  own-then k true is below same = second.own k below is
  own-then k false is below same = second.others k is ∙ first.own k below (or-second (p k) false same refl)

  zeros-then : (k n : ℕ) (x : Bool) → q k ≡ x → (p k || x) ≡ true → here k ≡ true → f.general k n ≡ 0
  zeros-then k n true is same own = second.zeros k n is own
  zeros-then k n false is same own = (λ i. second.registers k is i n) ∙ first.zeros k n (or-second (p k) false same refl) own

  pub both-reset : AreReset (λ k. p k || q k) here d f a c
  both-reset = record {
    gtt = second.gtt ∙ first.gtt;
    mmio = second.mmio ∙ first.mmio;
    failsafe = second.failsafe ∙ first.failsafe;
    own = λ k below same. own-then k (q k) refl below same;
    others = λ k same. (let no = neither (p k) (q k) same in second.others k no.1 ∙ first.others k no.0);
    zeros = λ k n same own. zeros-then k n (q k) refl same own;
    registers = λ k same. (let no = neither (p k) (q k) same in second.registers k no.1 ∙ first.registers k no.0);
    work = λ k below same. (let no = neither (p k) (q k) same in
        (λ i. element_in f (number_of (sym first.gtt i)) k (here k) (sym (first.others k no.0) i).element)
        ∙ second.work k below no.1
        ∙ (λ i. element_in e (number_of (first.gtt i)) k (here k) (first.others k no.0 i).element)
        ∙ first.work k below no.0);
    stands = λ k below same stands. (let no = neither (p k) (q k) same in second.stands k below no.1 (first.stands k below no.0 stands));
    occupies = second.occupies;
    translates = λ translates. second.translates (first.translates translates);
    memory = (λ i. memory_of f (sym first.gtt i)) ∙ second.memory ∙ (λ i. memory_of e (first.gtt i)) ∙ first.memory;
    outside = outside-then here d e f a b (λ i. number_of (first.gtt i)) (λ i. ranges_of (first.gtt i)) first.outside second.outside;
    live = moves-then d e f (own_live a) (own_live b) (own_live c) first.live second.live;
    copies = comes-then d e f a b c first.copies second.copies;
  }

-- one engine more
pub reset-more : (p q here : ℕ → Bool) (engine : ℕ) (d e f : Device) (a b c : Vgpu) → engine < 4 → ((k : ℕ) → (p k || eqb k engine) ≡ q k) → AreReset p here d e a b → IsReset here engine e f b c → AreReset q here d f a c
reset-more p q here engine d e f a b c four more first one =
    subst (λ r. AreReset r here d f a c) (λ i k. more k i) (both-reset p (λ k. eqb k engine) here d e f a b c first (one-reset e f b c here engine four first.occupies one))

-- and one that stopped
pub reset-stops :
    (p here : ℕ → Bool) (d e f : Device) (a b : Vgpu) (stop : Stop) → AreReset p here d e a b → f ≡ with_faults e f.faults → counted e.faults ≤ f.faults → (stop ≡ OutOfMemory → ⊥) → Stops here d f a stop
reset-stops p here d e f a b stop first same cause other = record {
  outside = (λ i. outside (guest_part (number_of a.gtt) (ranges_of a.gtt) here) (same i)) ∙ (λ i. with_faults (first.outside i) f.faults);
  cause = λ is. subst (λ faults. counted faults ≤ f.faults) (λ i. (first.outside i).faults) cause;
  memory = λ is. absurd (other is);
}

-- ---- which ones

pub below-none : (k : ℕ) → false ≡ are_below 0 k
below-none k = grind (arith, nat_tests)

pub below-more : (n k : ℕ) → (are_below n k || eqb k n) ≡ are_below (n + 1) k
below-more n k = by (ltb k n) (eqb k n) (ltb k (n + 1)) refl refl refl
  where
    by : (a b c : Bool) → ltb k n ≡ a → eqb k n ≡ b → ltb k (n + 1) ≡ c → (a || b) ≡ c
    by true b true x y z = refl
    by true b false x y z = absurd (grind (arith, nat_tests))
    by false true true x y z = refl
    by false true false x y z = absurd (grind (arith, nat_tests))
    by false false true x y z = absurd (grind (arith, nat_tests))
    by false false false x y z = refl

pub named-none : (named : List Bool) (k : ℕ) → false ≡ are_named_below named 0 k
named-none named k = below-none k ∙ none (ltb k 0) (sym (below-none k))
  where
    none : (a : Bool) → a ≡ false → a ≡ (a && named_at named k)
    none true is = cc
    none false is = refl

-- an engine that is named
pub named-more : (named : List Bool) (n k : ℕ) → named_at named n ≡ true → (are_named_below named n k || eqb k n) ≡ are_named_below named (n + 1) k
named-more named n k is = by (eqb k n) refl
  where
    by : (b : Bool) → eqb k n ≡ b → (are_named_below named n k || b) ≡ are_named_below named (n + 1) k
    by true same =
        let equal : k ≡ n = grind (arith, nat_tests) in
        let below : ltb k (n + 1) ≡ true = grind (arith, nat_tests) in
        or-true (are_named_below named n k) ∙ sym (ap (λ b. b && named_at named k) below ∙ ap (named_at named) equal ∙ is)
    by false same =
        or-false (are_named_below named n k) ∙ ap (λ b. b && named_at named k) (sym (or-false (ltb k n)) ∙ ap (λ b. ltb k n || b) (sym same) ∙ below-more n k)

-- one that isn't
pub named-same : (named : List Bool) (n k : ℕ) → named_at named n ≡ false → are_named_below named n k ≡ are_named_below named (n + 1) k
named-same named n k is = by (eqb k n) refl
  where
    by : (b : Bool) → eqb k n ≡ b → are_named_below named n k ≡ are_named_below named (n + 1) k
    by true same =
        let equal : k ≡ n = grind (arith, nat_tests) in
        let not : named_at named k ≡ false = ap (named_at named) equal ∙ is in
        ap (λ b. ltb k n && b) not ∙ and-false (ltb k n) ∙ sym (ap (λ b. ltb k (n + 1) && b) not ∙ and-false (ltb k (n + 1)))
    by false same = ap (λ b. b && named_at named k) (sym (or-false (ltb k n)) ∙ ap (λ b. ltb k n || b) (sym same) ∙ below-more n k)

-- what is so says it of an error
pub on-err : {T E P : Type 0} (answer : Result T E) → P → OnErr answer P
on-err (Ok x) so = tt
on-err (Err x) so = so

-- the same of an equal device
pub reset-now : (named here : ℕ → Bool) (d e f : Device) (a b c : Vgpu) → f ≡ e → c ≡ b → AreReset named here d e a b → AreReset named here d f a c
reset-now named here d e f a b c device own r = subst (λ v. AreReset named here d f a v) (sym own) (subst (λ x. AreReset named here d x a b) (sym device) r)
