-- What a call makes of the private device, and one call after another.
use Rattle.std.proofs.Common.{◌≡◌, ℕ, Bool, None, Option, sym, ◌∙◌, subst}
use Rattle.gv_gpu.specs.Device.{Device}
use Rattle.gv_private.specs.Device.{PrivateDevice, Written, quietly}
use Rattle.gv_private.specs.Roots.{named_root, notify_written, root_created, root_destroyed}
use Rattle.gv_vgpu.specs.Changes.{Keeps, Makes, injected}
use Rattle.gv_vgpu.specs.Vgpu.{private_of}
use Rattle.gv_vgpu.specs.declared.vgpu.Vgpu.{Vgpu}
use Rattle.gv_vgpu.specs.declared.notice.Notice.{Notice}

-- a call that tells of an interrupt at the most
pub makes-done :
    (here : ℕ → Bool) (d e : Device) (old new : Vgpu) (w : Written) (irq : Option ℕ) (notice : Notice) → w ≡ record { device = private_of e new here; irq = irq; reason = None } → Keeps here d e old new → notice ≡ injected irq
    → Makes here d e old new w notice
makes-done here d e old new w irq notice does keeps is = record {
  written = does ∙ (λ i. record { device = private_of e new here; irq = (sym is i).irq; reason = (sym is i).failsafe });
  keeps = keeps;
}

-- what a write of notify does
pub notify-creates : (p : PrivateDevice) (value root : ℕ) → value ≡ 4 → root ≡ named_root p → root_created p root ≡ notify_written p value
notify-creates p value root is named = subst (λ v. root_created p root ≡ notify_written p v) (sym is) (λ i. root_created p (named i))

pub notify-destroys : (p : PrivateDevice) (value root : ℕ) → value ≡ 5 → root ≡ named_root p → quietly (root_destroyed p root) ≡ notify_written p value
notify-destroys p value root is named = subst (λ v. quietly (root_destroyed p root) ≡ notify_written p v) (sym is) (λ i. quietly (root_destroyed p (named i)))
