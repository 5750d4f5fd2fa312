-- What a reply promises of the guests' own tables, frames and memory, and of the copies of their elements.
use Rattle.std.specs.Prelude.{◌≡◌, ℕ, Option, Some, ⊤}
use Rattle.gv_types.specs.declared.event.Event.{Event}
use Rattle.gv_types.specs.declared.event.Event.TheVariants.{Move, Write}
use Rattle.gv_types.specs.declared.reply.Answer.{Answer}
use Rattle.gv_types.specs.declared.reply.Reason.{Reason}
use Rattle.gv_gpu.specs.Device.{Device}
use Rattle.gv_machine.specs.Machine.{Machine, device_at, event_receiver, guest_in}
use Rattle.gv_sched.specs.Rota.{owner_of}
use Rattle.gv_vgpu.specs.Access.{FrameMoves, WritePokes}
use Rattle.gv_vgpu.specs.Copies.{CopiesStay}
use Rattle.gv_vgpu.specs.Exact.{GrantsAreExact}
use Rattle.gv_vgpu.specs.Followed.{FollowsTables}
use Rattle.gv_vgpu.specs.declared.vgpu.Vgpu.{Vgpu}
use Rattle.gv_mediator.specs.Listed.{AnswersOnce}
use Rattle.gv_mediator.specs.Rota.{owners_in, owns}
use Rattle.gv_mediator.specs.Tied.{IsAt, machine_of}
use Rattle.gv_mediator.specs.declared.mediator.Mediator.{Mediator}

-- The shared device follows the tables of each guest's private device: what an engine reaches through it is what they
-- grant.
abbrev pub AllFollow : Device → Mediator → Type 0
AllFollow d m = (g : ℕ) (v : Vgpu) → IsAt m.guests.items g v → FollowsTables d v (device_at (machine_of d m).devices g)

-- What the engines of each guest touch of its memory at their next step is exactly what is asked for and its private
-- device grants.
abbrev pub AllExact : Device → Mediator → Type 0
AllExact d m = (g : ℕ) (v : Vgpu) → IsAt m.guests.items g v → GrantsAreExact d v (owns (owners_in m.rota) g) (device_at (machine_of d m).devices g)

-- A frame that moved stands in a host page of another number, and one that was kept in its own.
abbrev pub EventMoves : Device → Mediator → Mediator → Event → Answer → Type 0
EventMoves e old new (Move guest frame) answer = (v w : Vgpu) → IsAt old.guests.items guest.0 v → IsAt new.guests.items guest.0 w → FrameMoves e v w frame answer
EventMoves e old new one answer = ⊤

-- A turn is one step of the device for the guest that owns the engine.
abbrev pub EventOnce : Device → Device → Mediator → Mediator → Event → Answer → Type 0
EventOnce d e old new one answer = (g : ℕ) (v w : Vgpu) → guest_in (event_receiver (owner_of old.rota) one) ≡ Some g → IsAt old.guests.items g v → IsAt new.guests.items g w
    → AnswersOnce (owns (owners_in old.rota) g) d e v w one answer

-- Whatever a guest or an engine writes: an element that is at work before an event and after it is the same, and no word
-- of the copies that it runs from changed.
abbrev pub AllCopiesStay : Device → Device → Mediator → Mediator → Type 0
AllCopiesStay d e old new = (g : ℕ) (v w : Vgpu) → IsAt old.guests.items g v → IsAt new.guests.items g w → CopiesStay d e v w

-- A write of a guest's memory after which its live tables and split keys are as before pokes one word, and one more for
-- each level at which the frame is a live table.
abbrev pub EventPokes : Device → Device → Machine → Machine → Event → Option Reason → Type 0
EventPokes d e m left (Write guest place width at value) failsafe = WritePokes d e (device_at m.devices guest.0) (device_at left.devices guest.0) place at failsafe
EventPokes d e m left one failsafe = ⊤
