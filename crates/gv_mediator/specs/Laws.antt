-- What holds of a machine that stands in a device.
use Rattle.std.specs.Prelude.{◌≡◌, ℕ, ◌<◌, List, length}
use Rattle.gv_gpu.specs.Device.{Device}
use Rattle.gv_guest.specs.Placed.{Hosts, memory_in}
use Rattle.gv_machine.specs.Machine.{Machine, device_at}
use Rattle.gv_mediator.specs.Tied.{Tied, machine_of}
use Rattle.gv_mediator.specs.declared.mediator.Mediator.{Mediator}

-- The device has just the machine's memories: for each guest a page for each frame, with the frame's words, and no other
-- page that is labelled as a frame of the guest.
abbrev pub HasMemories : Device → Machine → Type 0
HasMemories d m = (g : ℕ) → g < length m.devices → (pages : List ℕ) × Hosts d (record { guest = g; pages = pages }) × (memory_in d (record { guest = g; pages = pages }) ≡ (device_at m.devices g).memory)

abbrev pub DevicesHaveMemories : Type 0
DevicesHaveMemories = (d : Device) (m : Mediator) → Tied d m → HasMemories d (machine_of d m)
