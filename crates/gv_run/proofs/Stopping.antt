-- Why a run stopped, case by case.
use Rattle.std.proofs.Common.{◌≡◌, ◌≢◌, refl}
use Rattle.gv_run.specs.Headline.{status_of_stop}
use Rattle.gv_run.specs.declared.call.Status.TheVariants.{DeviceFault}
use Rattle.gv_run.specs.declared.stopped.Stopped.{Stopped}
use Rattle.gv_run.specs.declared.stopped.Stopped.TheVariants as stops

-- what holds in each other case, holds where it wasn't the device
pub unless-device : (stopped : Stopped) (P : Type 0) → (stopped ≡ stops.OutOfMemory → P) → (stopped ≡ stops.Read → P) → (stopped ≡ stops.Write → P) → status_of_stop stopped ≢ DeviceFault → P
unless-device stops.OutOfMemory P memory reading writing other = memory refl
unless-device stops.Read P memory reading writing other = reading refl
unless-device stops.Write P memory reading writing other = writing refl
unless-device stops.Device P memory reading writing other = absurd (other refl)
