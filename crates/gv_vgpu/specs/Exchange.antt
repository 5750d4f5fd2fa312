-- The exchange of an engine: what the guest that owned it has of it is put away, and what its new owner has is brought.
use Rattle.std.specs.Prelude.{◌≡◌, ℕ, ◌≤◌, ◌==◌, Bool, Option, None, Some, if◌then◌else◌}
use Rattle.gv_element.specs.Works.{Held}
use Rattle.gv_sring.specs.Window.{descriptor_at}
use Rattle.gv_gpu.specs.Device.{Device}
use Rattle.gv_vgpu.specs.Changes.{ChangesOwn}
use Rattle.gv_vgpu.specs.Copies.{NoneComes}
use Rattle.gv_vgpu.specs.Vgpu.{private_of}
use Rattle.gv_vgpu.specs.Standing.{Holds}
use Rattle.gv_vgpu.specs.declared.vgpu.Vgpu.{Vgpu}

-- the engines that a guest owns, but that it owns this one or doesn't
abbrev pub owning : (ℕ → Bool) → ℕ → Bool → ℕ → Bool
owning here engine owned k = if k == engine then owned else here k

-- An engine has sixteen general registers.
abbrev pub HasSixteen : Device → ℕ → Type 0
HasSixteen d engine = (n : ℕ) → 16 ≤ n → d.general engine n ≡ 0

-- The guest owned these engines before, and owns those afterwards. Its device holds again, for the private device that it
-- stood for. What is the guest's own changed, with these engines, and of that no copy of an element at work.
pub record Exchanges (engines before after : ℕ → Bool) (d e : Device) (old new : Vgpu) : Type 0 where
  pub holds : Holds e new after
  pub device : private_of e new after ≡ private_of d old before
  pub changes : ChangesOwn engines d e old new
  pub copies : NoneComes d e old new

-- ---- the shadow context of an element at work

abbrev pub shadow_of : Option Held → Option ℕ
shadow_of None = None
shadow_of (Some x) = Some (descriptor_at x.window.guest x.window.engine)
