-- What an event leaves of the copies that all guests' elements at work run from.
use Rattle.std.proofs.Common.{◌≡◌, ◌≢◌, ℕ, Bool, Option, None, List, length, set, refl, subst}
use Rattle.gv_gpu.specs.Device.{Device}
use Rattle.gv_private.specs.Turn.{RanCommand}
use Rattle.gv_vgpu.specs.Changes.{ChangesOwn, journalled}
use Rattle.gv_vgpu.specs.Copies.{CopiesStay, NoneComes}
use Rattle.gv_vgpu.specs.Standing.{Holds}
use Rattle.gv_vgpu.specs.declared.vgpu.Vgpu.{Vgpu}
use Rattle.gv_vgpu.proofs.Copies.{comes-none, comes-stay, comes-then}
use Rattle.gv_vgpu.proofs.Others.{copies_stand, device_stands, device_stays}
use Rattle.gv_vgpu.proofs.Small.{devices_are_small, windows_are_small}
use Rattle.gv_mediator.specs.Rota.{owns}
use Rattle.gv_mediator.specs.Tied.{IsAt, Ties}
use Rattle.gv_mediator.proofs.OneGuest.{OwnersChange, at-each, left, one-there}

-- At each place no element came.
abbrev pub AllCome : Device → Device → List Vgpu → List Vgpu → Type 0
AllCome d e before after = (k : ℕ) (v w : Vgpu) → IsAt before k v → IsAt after k w → NoneComes d e v w

-- At each place the copies stay.
abbrev pub AllStay : Device → Device → List Vgpu → List Vgpu → Type 0
AllStay d e before after = (k : ℕ) (v w : Vgpu) → IsAt before k v → IsAt after k w → CopiesStay d e v w

-- ---- a call of one guest

module _ (d e : Device) (before after : ℕ → Option ℕ) (engines : ℕ → Bool) (guests : List Vgpu) (g : ℕ) (old new : Vgpu) (here : IsAt guests g old) (ties : Ties d before guests) (ran : List RanCommand)
    (holds : Holds e new (owns after g)) (changes : ChangesOwn engines (journalled d ran) e old new) (owners : OwnersChange engines before after g (length guests)) (idle : (engine : ℕ) → after engine ≡ None → e.loaded engine ≡ None) where
  -- no element of another guest's came
  others-come : (k : ℕ) (x : Vgpu) → IsAt guests k x → k ≢ g → NoneComes d e x x
  others-come k x within differ =
      copies_stand d e x (owns before k) (ties.holds k x within) (left device_stands device_stays devices_are_small windows_are_small d e before after engines guests g old new here ties ran holds changes owners idle k x within differ)

  pub all-come : NoneComes d e old new → AllCome d e guests (set guests g new)
  all-come own = at-each (NoneComes d e) guests g old new here own others-come

  pub all-stay : CopiesStay d e old new → AllStay d e guests (set guests g new)
  all-stay own = at-each (CopiesStay d e) guests g old new here own (λ k x within differ. comes-stay d e x x (others-come k x within differ))

-- ---- one after another

-- nothing changed
pub stay-same : (d : Device) (guests : List Vgpu) → AllStay d d guests guests
stay-same d guests k v w before now = subst (CopiesStay d d v) (one-there guests k v w before now) (comes-stay d d v v (comes-none d v v (λ k. refl)))

-- two calls by which none came
pub come-then : (d e f : Device) (a b c : List Vgpu) → ((k : ℕ) (v : Vgpu) → IsAt a k v → (x : Vgpu) × IsAt b k x) → AllCome d e a b → AllCome e f b c → AllStay d f a c
come-then d e f a b c there first second k v w before now =
    let mid = there k v before in
    comes-stay d f v w (comes-then d e f v mid.0 w (first k v mid.0 before mid.1) (second k mid.0 w mid.1 now))
