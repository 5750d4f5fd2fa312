-- What the engines of a guest touch of memory is what its own tables grant.
use Rattle.std.specs.Prelude.{◌≡◌, ℕ, ◌<◌, Bool, [], true, None, Some}
use Rattle.gv_exact.specs.Exact.{StepsExactly, step_touched}
use Rattle.gv_gpu.specs.Device.{Device}
use Rattle.gv_gtt.specs.Gtt.{frames_of}
use Rattle.gv_private.specs.Device.{PrivateDevice, Working}
use Rattle.gv_vgpu.specs.Vgpu.{private_of}
use Rattle.gv_vgpu.specs.Standing.{Holds}
use Rattle.gv_vgpu.specs.declared.vgpu.Vgpu.{Vgpu}

-- On each engine that the guest owns, and on which its private device has an element at work, the next step touches of
-- guest memory exactly what the element's front command asks for and the grants of that moment give: in order, the bytes
-- of the frames' host pages, no others, and each of them. Where there is no element it touches none.
pub record GrantsAreExact (d : Device) (v : Vgpu) (here : ℕ → Bool) (p : PrivateDevice) : Type 0 where
  pub work : (engine : ℕ) (w : Working) → engine < 4 → here engine ≡ true → (p.engines engine).element ≡ Some w → StepsExactly d engine (frames_of v.gtt) p w
  pub idle : (engine : ℕ) → engine < 4 → here engine ≡ true → (p.engines engine).element ≡ None → step_touched d engine ≡ []

-- So it is whenever the guest's device stands, and not only behind a step.
abbrev pub GrantsStayExact : Type 0
GrantsStayExact = (d : Device) (v : Vgpu) (here : ℕ → Bool) → Holds d v here → GrantsAreExact d v here (private_of d v here)
