-- The memories of a machine that stands in a device.
use Rattle.std.proofs.Common.{◌≡◌, ◌∷◌, [], ◌<◌, List, Option, ℕ, length, get_or, ap, sym, ◌∙◌, subst, arith}
use Rattle.std.proofs.lemmas.List.{length-map, get_or_default}
use Rattle.gv_gpu.specs.Device.{Device}
use Rattle.gv_guest.specs.Placed.{Hosts, memory_in}
use Rattle.gv_gtt.specs.Gtt.{frames_of}
use Rattle.gv_machine.specs.Machine.{device_at}
use Rattle.gv_private.specs.Device.{PrivateDevice}
use Rattle.gv_vgpu.specs.Vgpu.{private_of}
use Rattle.gv_vgpu.specs.declared.vgpu.Vgpu.{Vgpu}
use Rattle.gv_mediator.specs.Laws.{DevicesHaveMemories}
use Rattle.gv_mediator.specs.Rota.{owners_in, owns}
use Rattle.gv_mediator.specs.Tied.{IsAt, Ties, devices_in}
use Rattle.gv_mediator.proofs.OneGuest.{device-there}

-- the device of a guest that is there
pub device-at : (d : Device) (owners : ℕ → Option ℕ) (guests : List Vgpu) (k : ℕ) (v : Vgpu) → Ties d owners guests → IsAt guests k v → device_at (devices_in d owners guests) k ≡ private_of d v (owns owners k)
device-at d owners guests k v ties at = device-there d owners guests k v at ∙ ap (λ n. private_of d v (owns owners n)) (ties.number k v at)

one-memory :
    (d : Device) (owners : ℕ → Option ℕ) (guests : List Vgpu) (g : ℕ) (v : Vgpu) → Ties d owners guests → IsAt guests g v
    → (pages : List ℕ) × Hosts d (record { guest = g; pages = pages }) × (memory_in d (record { guest = g; pages = pages }) ≡ (device_at (devices_in d owners guests) g).memory)
one-memory d owners guests g v ties at =
    let is : frames_of v.gtt ≡ record { guest = g; pages = (frames_of v.gtt).pages } = ap (λ n. record (frames_of v.gtt) { guest = n }) (ties.number g v at) in (
      (frames_of v.gtt).pages,
      subst (Hosts d) is (ties.holds g v at).translates.serving.stands.holds.stands,
      ap (λ (p : PrivateDevice). p.memory) (sym (device-at d owners guests g v ties at)),
    )

all-memories : (d : Device) (owners : ℕ → Option ℕ) (guests : List Vgpu) → Ties d owners guests → (g : ℕ) → g < length (devices_in d owners guests)
    → (pages : List ℕ) × Hosts d (record { guest = g; pages = pages }) × (memory_in d (record { guest = g; pages = pages }) ≡ (device_at (devices_in d owners guests) g).memory)
all-memories d owners [] ties g h = absurd (omega arith)
all-memories d owners (first ∷ others) ties g h =
    let within : g < length (first ∷ others) = rw length-map at h in
    let v = get_or (first ∷ others) g first in
    one-memory d owners (first ∷ others) g v ties (within, get_or_default (first ∷ others) g v first within)

pub devices_have_memories : DevicesHaveMemories
devices_have_memories d m tied = all-memories d (owners_in m.rota) m.guests.items tied.ties
