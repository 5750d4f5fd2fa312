-- What an event leaves of the machine that stands in the shared device: where it is answered, and where it stops.
use Rattle.std.specs.Prelude.{◌≡◌, ◌≤◌, ℕ, Bool, [], ◌∷◌, map}
use Rattle.gv_types.specs.declared.event.Event.{Event}
use Rattle.gv_types.specs.declared.reply.Reply.{Reply}
use Rattle.gv_types.specs.declared.reply.Stop.{Stop}
use Rattle.gv_types.specs.declared.reply.Stop.TheVariants.{DeviceFault, OutOfMemory}
use Rattle.gv_element.specs.Works.{KeepsEngines}
use Rattle.gv_gpu.specs.Change.{Ran}
use Rattle.gv_gpu.specs.Device.{Device, counted}
use Rattle.gv_machine.specs.Machine.{Happened}
use Rattle.gv_private.specs.Inputs.{answer}
use Rattle.gv_vgpu.specs.Access.{AccessMoves, AccessPokes, Replies}
use Rattle.gv_vgpu.specs.Changes.{Stops}
use Rattle.gv_vgpu.specs.Vgpu.{private_of}
use Rattle.gv_vgpu.specs.declared.vgpu.Vgpu.{Vgpu}
use Rattle.gv_mediator.specs.Event.{entries_ran, event_done}
use Rattle.gv_mediator.specs.Listed.{AnswersOnce, DeviceMayFault, DeviceMayLackMemory, EventMayFault, EventMayLackMemory}
use Rattle.gv_mediator.specs.Tables.{AllCopiesStay, AllExact, AllFollow, EventMoves, EventOnce, EventPokes}
use Rattle.gv_mediator.specs.Tied.{Tied, machine_of}
use Rattle.gv_mediator.specs.declared.mediator.Mediator.{Mediator}

-- ---- the machine

-- What an answered event leaves, by the machine that stood in the device before.
pub record Answers (d e : Device) (old new : Mediator) (event : Event) (given : Reply) : Type 0 where
  -- the reply is the machine's
  pub reply : map (λ (h : Happened). h.reply) (event_done (machine_of d old) event).came ≡ given ∷ []
  -- the machine is as after the event
  pub machine : machine_of e new ≡ (event_done (machine_of d old) event).left
  -- and stands in the device again
  pub tied : Tied e new
  -- the journal is as before with the command that ran behind it, and no step strayed
  pub ran : Ran d e (entries_ran (event_done (machine_of d old) event).came)
  -- no fault of the device is passed over
  pub quiet : e.faults ≡ d.faults
  -- a turn is one step of the device for the guest that owns the engine
  pub once : EventOnce d e old new event given.answer
  -- a frame that moved stands in another page, and one that was kept in its own
  pub moves : EventMoves e old new event given.answer
  -- no word of the copies changed that an element at work runs from, before and after
  pub copies : AllCopiesStay d e old new
  -- a write that changes no live table pokes a word, and one more for each level of its frame
  pub pokes : EventPokes d e (machine_of d old) (machine_of e new) event given.failsafe
  -- what an engine reaches through the device is what the guests' own tables grant
  pub followed : AllFollow e new
  -- and what the next step of each engine touches is exactly that
  pub exact : AllExact e new

-- What an event leaves that stops.
pub record StopsBy (d e : Device) (old : Mediator) (event : Event) (stop : Stop) : Type 0 where
  -- nothing ran
  pub stopped : Ran d e []
  -- by a fault only where one was counted, and for want of memory only where none was
  pub cause : stop ≡ DeviceFault → counted d.faults ≤ e.faults
  pub memory : stop ≡ OutOfMemory → e.faults ≡ d.faults
  -- and only at an event that may
  pub faults : stop ≡ DeviceFault → EventMayFault (machine_of d old) event
  pub lacks : stop ≡ OutOfMemory → EventMayLackMemory d (machine_of d old) event
  -- no engine changed where memory lacked
  pub unsubmitted : stop ≡ OutOfMemory → KeepsEngines d e

-- ---- one guest's device

-- The same of the device of one guest, which owns these engines.
pub record DeviceAnswers (here : ℕ → Bool) (d e : Device) (old new : Vgpu) (event : Event) (given : Reply) : Type 0 where
  -- the reply, what is left and the command that ran are the private device's
  pub replies : Replies here d e old new (answer (private_of d old here) event) given
  pub once : AnswersOnce here d e old new event given.answer
  pub moves : AccessMoves e old new event given.answer
  pub pokes : AccessPokes d e (private_of d old here) (private_of e new here) event given.failsafe

pub record DeviceStopsBy (here : ℕ → Bool) (d e : Device) (old : Vgpu) (event : Event) (stop : Stop) : Type 0 where
  -- nothing changed but the guest's own part and faults
  pub stops : Stops here d e old stop
  pub faults : stop ≡ DeviceFault → DeviceMayFault (private_of d old here) event
  pub lacks : stop ≡ OutOfMemory → DeviceMayLackMemory d (private_of d old here) event
  pub unsubmitted : stop ≡ OutOfMemory → KeepsEngines d e
