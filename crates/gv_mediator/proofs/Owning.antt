-- Who owns an engine, and whose context is loaded there.
use Rattle.std.proofs.Common.{◌≡◌, ◌≢◌, ℕ, zero, suc, [], ◌∷◌, ◌<◌, ◌≤◌, nat_lt, if◌then◌else◌, Bool, true, false, Option, None, Some, refl, sym, ◌∙◌, arith}
use Rattle.std.proofs.lemmas.Bool.Decides.{nat_tests}
use Rattle.std.proofs.lemmas.Option.{none-some}
use Rattle.gv_element.specs.Works.{Held, context_now}
use Rattle.gv_gpu.specs.Device.{Device, Loaded}
use Rattle.gv_gpu.specs.Part.{AreDisjoint}
use Rattle.gv_gtt.specs.Gtt.{number_of}
use Rattle.gv_vgpu.specs.Vgpu.{engine_at}
use Rattle.gv_vgpu.specs.Standing.{Holds, StandsOn}
use Rattle.gv_vgpu.specs.Owners.{is_here}
use Rattle.gv_sched.specs.Rota.{Owners, owner_of}
use Rattle.gv_mediator.specs.Rota.{is_guest, owners_in, owns}
use Rattle.gv_vgpu.specs.declared.vgpu.Vgpu.{Vgpu}

not-both : (g k : ℕ) (owner : Option ℕ) → g ≢ k → is_guest g owner ≡ true → is_guest k owner ≡ false
not-both g k None differ is = refl
not-both g k (Some owner) differ is = grind (arith, nat_tests)

pub below-four : (engine : ℕ) → engine < 4 → nat_lt engine 4 ≡ true
below-four engine below = grind (arith, nat_tests)

pub owner-of-engine : (s : Owners) (engine : ℕ) → engine < 4 → owners_in s engine ≡ Some (owner_of s engine)
owner-of-engine s engine below = λ i. if below-four engine below i then Some (owner_of s engine) else None

pub same-some : (g k : ℕ) → Some g ≡ Some k → g ≡ k
same-some g k is = cc

pub owns-it : (k : ℕ) → is_guest k (Some k) ≡ true
owns-it k = grind (arith, nat_tests)

-- no engine has two owners
pub owners-disjoint : (owners : ℕ → Option ℕ) (g k : ℕ) → g ≢ k → AreDisjoint (owns owners g) (owns owners k)
owners-disjoint owners g k differ engine is = not-both g k (owners engine) differ is

some-same : (l m : Loaded) → Some l ≡ Some m → l ≡ m
some-same l m is = cc

-- The context that is loaded on an engine of a guest's is the guest's own.
pub loaded-owner : (d : Device) (v : Vgpu) (here : ℕ → Bool) (engine : ℕ) → Holds d v here → engine < 4 → here engine ≡ true → (l : Loaded) → d.loaded engine ≡ Some l → l.owner ≡ number_of v.gtt
loaded-owner d v here engine holds below own l is = on (engine_at v engine).element (holds.engines engine below)
  where
    on : (element : Option Held) → StandsOn d v engine (here engine) element → l.owner ≡ number_of v.gtt
    on None stands = absurd (none-some l (sym (stands.idle own) ∙ is))
    on (Some x) stands =
        let same : context_now d (number_of v.gtt) engine (here engine) ≡ l = some-same (context_now d (number_of v.gtt) engine (here engine)) l (sym (stands.works.loaded own) ∙ is) in
        (λ i. (sym same i).owner) ∙ stands.works.runs.context.owner ∙ stands.works.window.guest_is

-- the engines of a guest, one by one
pub here-is :
    (a b c d : Bool) (f : ℕ → Bool) → a ≡ f 0 → b ≡ f 1 → c ≡ f 2 → d ≡ f 3 → ((k : ℕ) → f (suc (suc (suc (suc k)))) ≡ false) → is_here (a ∷ b ∷ c ∷ d ∷ []) ≡ f
here-is a b c d f one two three four none = λ i k. each k i
  where
    each : (k : ℕ) → is_here (a ∷ b ∷ c ∷ d ∷ []) k ≡ f k
    each zero = one
    each (suc zero) = two
    each (suc (suc zero)) = three
    each (suc (suc (suc zero))) = four
    each (suc (suc (suc (suc k)))) = sym (none k)

pub past-four : (k : ℕ) → 4 ≤ k → nat_lt k 4 ≡ false
past-four k past = grind (arith, nat_tests)

-- nobody owns a fifth engine
pub none-past : (rota : Owners) (guest k : ℕ) → owns (owners_in rota) guest (suc (suc (suc (suc k)))) ≡ false
none-past rota guest k =
    let past : nat_lt (suc (suc (suc (suc k)))) 4 ≡ false = past-four (suc (suc (suc (suc k)))) (omega arith) in
    λ i. is_guest guest (if past i then Some (owner_of rota (suc (suc (suc (suc k))))) else None)
