-- How a guest's part of the device is before its device is made.
use Rattle.std.specs.Prelude.{◌≡◌, ℕ, ◌<◌, ◌≤◌, Bool, true, false, None}
use Rattle.gv_gpu.specs.Device.{Device}
use Rattle.gv_sring.specs.Window.{WindowIsAbsent}
use Rattle.gv_vgpu.specs.Standing.{IsAway}

-- The engines that a guest is to own are among the four, have no context loaded, and no general register of theirs was
-- written; and none of its contexts is loaded on another.
pub record AreIdle (d : Device) (guest : ℕ) (here : ℕ → Bool) : Type 0 where
  pub none_above : (engine : ℕ) → 4 ≤ engine → here engine ≡ false
  pub none : (engine : ℕ) → here engine ≡ true → d.loaded engine ≡ None
  pub unwritten : (engine : ℕ) → here engine ≡ true → d.general engine ≡ (λ n. 0)
  pub away : IsAway d guest here

-- no entry of the guest's four windows is present
abbrev pub WindowsAreAbsent : Device → ℕ → Type 0
WindowsAreAbsent d guest = (engine : ℕ) → engine < 4 → WindowIsAbsent d guest engine
