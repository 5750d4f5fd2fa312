-- Calls that stopped.
use Rattle.std.proofs.Common.{◌≡◌, ℕ, Bool, Result, Ok, Err, sym, ◌∙◌, subst}
use Rattle.std.specs.Prelude.{IfOk, IfErr, OnOk, OnErr, IsErr}
use Rattle.std.proofs.lemmas.Bool.{false≢true}
use Rattle.gv_types.specs.declared.reply.Stop.{Stop}
use Rattle.gv_types.specs.declared.reply.Stop.TheVariants.{DeviceFault}
use Rattle.gv_gpu.specs.Device.{Device}
use Rattle.gv_gpu.specs.Part.{guest_part, outside}
use Rattle.gv_gtt.specs.Gtt.{number_of, ranges_of}
use Rattle.gv_vgpu.specs.Changes.{Stops}
use Rattle.gv_vgpu.specs.declared.vgpu.Vgpu.{Vgpu}

-- what holds of a value, holds of it where a fault stops
pub ok-of : {T E : Type 0} (a : Result T E) (r : Result T Stop) (P : T → Type 0) → IfOk r (λ value. a ≡ Ok value) → IfOk a P → IfOk r P
ok-of a (Ok value) P is holds = subst (λ x. IfOk x P) is holds
ok-of a (Err stop) P is holds = tt

-- and what holds after a fault, holds where it stops
pub err-of : {T E : Type 0} (a : Result T E) (r : Result T Stop) (Q : Stop → Type 0) → IfErr r (λ stop. (stop ≡ DeviceFault) × IsErr a) → OnErr a (Q DeviceFault) → IfErr r Q
err-of a (Ok value) Q fault holds = tt
err-of (Ok value) (Err stop) Q fault holds = absurd (false≢true fault.1)
err-of (Err failed) (Err stop) Q fault holds = subst Q (sym fault.0) holds

-- of what follows
pub if-ok : {T E : Type 0} (a : Result T E) (P Q : T → Type 0) → ((value : T) → P value → Q value) → IfOk a P → IfOk a Q
if-ok (Ok value) P Q then holds = then value holds
if-ok (Err failed) P Q then holds = tt

pub on-err : {T E : Type 0} (a : Result T E) (P Q : Type 0) → (P → Q) → OnErr a P → OnErr a Q
on-err (Ok value) P Q then holds = tt
on-err (Err failed) P Q then holds = then holds

-- A call that changed nothing but the guest's own part stopped without a fault.
pub stops-without :
    (here : ℕ → Bool) (d e : Device) (old : Vgpu) (stop : Stop) → outside (guest_part (number_of old.gtt) (ranges_of old.gtt) here) e ≡ outside (guest_part (number_of old.gtt) (ranges_of old.gtt) here) d
    → (stop ≡ DeviceFault → ⊥) → Stops here d e old stop
stops-without here d e old stop same other = record {
  outside = same ∙ (λ i. record (outside (guest_part (number_of old.gtt) (ranges_of old.gtt) here) d) { faults = (sym same i).faults });
  cause = λ is. absurd (other is);
  memory = λ is i. (same i).faults;
}

-- what holds of a call, where it answered this
pub on-ok : {T E : Type 0} (a : Result T E) (value : T) (P : Type 0) → a ≡ Ok value → OnOk a P → P
on-ok a value P is holds = subst (λ x. OnOk x P) is holds

-- an error of another call
pub err-again : {T U E : Type 0} (x y : E) → ◌≡◌ {A = Result T E} (Err x) (Err y) → ◌≡◌ {A = Result U E} (Err x) (Err y)
err-again x y same = let is : x ≡ y = cc in λ i. Err (is i)
