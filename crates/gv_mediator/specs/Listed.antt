-- At which events the device may fault, and which may lack memory; a switch that changes nothing, and a turn as one step of
-- the device.
use Rattle.std.specs.Prelude.{◌≡◌, ◌≢◌, ℕ, Bool, IsSome, ⊤}
use Rattle.gv_types.specs.declared.event.Event.{Event}
use Rattle.gv_types.specs.declared.event.Event.TheVariants.{Turn, Switch, Reset}
use Rattle.gv_types.specs.declared.reply.Answer.{Answer}
use Rattle.gv_types.specs.declared.reply.Answer.TheVariants as answers
use Rattle.gv_types.specs.declared.reply.Outcome.TheVariants.{Idle}
use Rattle.gv_gpu.specs.Device.{Device}
use Rattle.gv_machine.specs.Machine.{Machine, Receiver, device, rota, device_at, event_receiver, owner_after}
use Rattle.gv_private.specs.Device.{PrivateDevice}
use Rattle.gv_private.specs.Turn.{turned}
use Rattle.gv_vgpu.specs.Access.{AccessMayFault, AccessMayLackMemory}
use Rattle.gv_vgpu.specs.Turn.{StepsOnce}
use Rattle.gv_vgpu.specs.declared.vgpu.Vgpu.{Vgpu}

-- ---- faults

-- of a guest's device: a turn that isn't idle, a reset, and an access at which it may fault
abbrev pub DeviceMayFault : PrivateDevice → Event → Type 0
DeviceMayFault p (Turn engine) = (turned p engine.0).outcome ≢ Idle
DeviceMayFault p (Reset guest) = ⊤
DeviceMayFault p one = AccessMayFault p one

-- and a switch by which the owner changes
abbrev pub ReceiverMayFault : Machine → Event → Receiver → Type 0
ReceiverMayFault m one (device g) = DeviceMayFault (device_at m.devices g) one
ReceiverMayFault m one (rota engine) = owner_after m engine.0 ≢ m.owners engine.0

abbrev pub EventMayFault : Machine → Event → Type 0
EventMayFault m one = ReceiverMayFault m one (event_receiver m.owners one)

-- ---- want of memory

-- of a guest's device: a turn that isn't idle, and one of an element at work only where the journal has no room for an
-- entry; and an access that may lack memory, as a move that isn't kept
abbrev pub DeviceMayLackMemory : Device → PrivateDevice → Event → Type 0
DeviceMayLackMemory d p (Turn engine) = ((turned p engine.0).outcome ≢ Idle) × (IsSome (p.engines engine.0).element → d.spare ≡ 0)
DeviceMayLackMemory d p one = AccessMayLackMemory p one

-- a switch takes none
abbrev pub ReceiverMayLackMemory : Device → Machine → Event → Receiver → Type 0
ReceiverMayLackMemory d m one (device g) = DeviceMayLackMemory d (device_at m.devices g) one
ReceiverMayLackMemory d m one (rota engine) = ⊥

abbrev pub EventMayLackMemory : Device → Machine → Event → Type 0
EventMayLackMemory d m one = ReceiverMayLackMemory d m one (event_receiver m.owners one)

-- ---- what touches the device

-- a switch by which the owner stays
abbrev pub KeepsOwner : Machine → Event → Type 0
KeepsOwner m (Switch engine) = owner_after m engine.0 ≡ m.owners engine.0
KeepsOwner m one = ⊥

-- a turn of a guest's device is one step of the shared one at the most, and exactly one where an element is at work
abbrev pub AnswersOnce : (ℕ → Bool) → Device → Device → Vgpu → Vgpu → Event → Answer → Type 0
AnswersOnce here d e old new (Turn engine) (answers.Turn outcome) = StepsOnce here d e old new engine.0 outcome
AnswersOnce here d e old new one answer = ⊤
