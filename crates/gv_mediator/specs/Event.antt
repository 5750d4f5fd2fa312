-- One event of the machine.
use Rattle.std.specs.Prelude.{◌≡◌, ℕ, ◌<◌, List, [], ◌∷◌, Bool, true, ⊤, length, map, slice_set}
use Rattle.gv_types.specs.declared.event.Event.{Event}
use Rattle.gv_types.specs.declared.event.Event.TheVariants.{Read, Write, Turn, Switch, Move, Reset}
use Rattle.gv_gpu.specs.Device.{JournalEntry}
use Rattle.gv_machine.specs.Course.{Course}
use Rattle.gv_machine.specs.Machine.{Machine, Receiver, Happened, device, rota, device_at, event_receiver, happened, owner_told, owner_after, switch_course, ran_of}
use Rattle.gv_vgpu.specs.Access.{IsAccess}
use Rattle.gv_vgpu.specs.Changes.{journal_entry}
use Rattle.gv_private.specs.Inputs.{answer}

-- ---- what is an event

-- Its guest is there, and its engine; frame, offset, alignment and value are as the guest's device takes them.
abbrev pub IsEvent : Machine → Event → Type 0
IsEvent m (Read guest place width at) = (guest.0 < length m.devices) × IsAccess guest.0 (length (device_at m.devices guest.0).memory) (Read guest place width at)
IsEvent m (Write guest place width at value) = (guest.0 < length m.devices) × IsAccess guest.0 (length (device_at m.devices guest.0).memory) (Write guest place width at value)
IsEvent m (Move guest frame) = (guest.0 < length m.devices) × IsAccess guest.0 (length (device_at m.devices guest.0).memory) (Move guest frame)
IsEvent m (Reset guest) = guest.0 < length m.devices
IsEvent m (Turn engine) = engine.0 < 4
IsEvent m (Switch engine) = engine.0 < 4

-- It goes to a guest's device, and not to the rota.
abbrev pub GoesToDevice : Event → Type 0
GoesToDevice (Switch engine) = ⊥
GoesToDevice one = ⊤

-- the same of one guest's device, by the engines that the guest owns
abbrev pub IsGuestEvent : ℕ → ℕ → (ℕ → Bool) → Event → Type 0
IsGuestEvent number frames here (Turn engine) = (engine.0 < 4) × (here engine.0 ≡ true)
IsGuestEvent number frames here (Reset guest) = guest.0 ≡ number
IsGuestEvent number frames here one = IsAccess number frames one

-- ---- what comes of it

abbrev pub received_by : Machine → Event → Receiver → Course Machine Happened
received_by m one (device g) = record {
  left = record m { devices = slice_set m.devices g (answer (device_at m.devices g) one).left };
  came = happened (answer (device_at m.devices g) one) ∷ [];
}
received_by m one (rota engine) = record { left = (switch_course m engine).left; came = owner_told (owner_after m engine.0) ∷ [] }

-- An event goes where it goes: to a guest's device, or to the rota.
abbrev pub event_done : Machine → Event → Course Machine Happened
event_done m one = received_by m one (event_receiver m.owners one)

-- the commands that ran, as the shared device's journal has them
abbrev pub entries_ran : List Happened → List JournalEntry
entries_ran came = map journal_entry (ran_of came)
