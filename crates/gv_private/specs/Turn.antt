-- A turn of an engine of the private device.
use Rattle.std.specs.Prelude.{ℕ, ◌+◌, ◌*◌, List, [], ◌∷◌, false, Option, None, Some, Result, Ok, Err, if◌then◌else◌}
use Rattle.gv_types.specs.declared.reply.Outcome.{Outcome}
use Rattle.gv_types.specs.declared.reply.Outcome.TheVariants as outcomes
use Rattle.gv_types.specs.declared.reply.Reason.{Reason}
use Rattle.gv_types.specs.declared.reply.Reason.TheVariants.{Command}
use Rattle.gv_cmd.specs.Allowed.{is_allowed}
use Rattle.gv_cmd.specs.Command.{decoded, shape_of}
use Rattle.gv_cmd.specs.Effect.{Effect, effect}
use Rattle.gv_cmd.specs.declared.command.Unlisted.{Unlisted}
use Rattle.gv_csb.specs.Slots.{completed, completion_events}
use Rattle.gv_fetch.specs.Left.{front, live_command, is_done, is_privileged, moved, stands_of}
use Rattle.gv_private.specs.Device.{PrivateDevice, Working, Written, with_slots, with_element, front_context, quietly, fails}
use Rattle.gv_private.specs.Grants.{global_written}
use Rattle.gv_private.specs.Load.{loaded}
use Rattle.gv_private.specs.Space.{PrivateSpace, space_of, with_space, operand_read, private_operations}
use Rattle.gv_private.specs.Status.{command_raised, events_given}

-- A command that ran: on which engine, for which guest, and its shape, which is its dwords without the address of
-- a fetched batch.
pub record RanCommand : Type 0 where
  pub engine : ℕ
  pub guest : ℕ
  pub shape : List ℕ

-- what a turn leaves and tells, its outcome, and the command that ran
pub record Turned : Type 0 where
  pub left : Written
  pub outcome : Outcome
  pub ran : List RanCommand

abbrev pub turned_as : Outcome → Written → Turned
turned_as outcome left = record { left = left; outcome = outcome; ran = [] }

-- ---- an element at work with a command left

-- The front command's dwords: those of the first item of the innermost level, or what stands at a live address, read
-- by the per-process grants.
abbrev pub front_words : PrivateDevice → ℕ → Working → List ℕ
front_words p engine w = front (live_command (operand_read (space_of p engine w.root) false)) w.left

-- what a command does to the space of the element
abbrev pub front_effect : PrivateDevice → ℕ → Working → List ℕ → Effect PrivateSpace
front_effect p engine w ws = effect private_operations ws engine (is_privileged w.left) (space_of p engine w.root)

-- the device after a command with these dwords: its effect, and what is left behind it
abbrev pub ran_after : PrivateDevice → ℕ → Working → List ℕ → ℕ → PrivateSpace → PrivateDevice
ran_after p engine w ws dwords s = with_element (with_space p engine s) engine (Some (record w { left = moved w.left ws dwords }))

abbrev pub ran_command : PrivateDevice → ℕ → List ℕ → RanCommand
ran_command p engine ws = record { engine = engine; guest = p.number; shape = shape_of ws }

-- A wait that doesn't hold changes nothing. Any other command runs, and then its interrupt bits are raised.
abbrev pub run_by : PrivateDevice → ℕ → Working → List ℕ → ℕ → PrivateSpace → Option ℕ → Turned
run_by p engine w ws dwords s None = turned_as outcomes.Waited (quietly p)
run_by p engine w ws dwords s (Some bits) =
    record { left = command_raised (ran_after p engine w ws dwords s) engine bits; outcome = outcomes.Ran; ran = ran_command p engine ws ∷ [] }

-- A command that is unlisted, or that may not stand where it stands, fails the guest; only a live batch can have one.
abbrev pub command_by : PrivateDevice → ℕ → Working → Result (List ℕ × ℕ) Unlisted → Turned
command_by p engine w (Err unlisted) = turned_as outcomes.Failed (fails p Command)
command_by p engine w (Ok (ws, dwords)) =
    if is_allowed ws (stands_of w.left) engine
    then run_by p engine w ws dwords (front_effect p engine w ws).after (front_effect p engine w ws).raise
    else turned_as outcomes.Failed (fails p Command)

-- ---- an element at work with no command left

-- The tail that the image had at the load goes to its dword 0x05 through the global table.
abbrev pub tail_written : PrivateDevice → ℕ → Working → PrivateDevice
tail_written p engine w = global_written p (((front_context (p.engines engine)).page + 1) * 4096 + 4 * 0x05) w.tail

-- The element is gone from its list, and where that was its last a pending list becomes the running one.
abbrev pub without_front : PrivateDevice → ℕ → PrivateDevice
without_front p engine = with_element (with_slots p engine (completed (p.engines engine).slots)) engine None

-- The tail is written, the element is gone, and the status events follow.
abbrev pub finished : PrivateDevice → ℕ → Working → Written
finished p engine w =
    events_given (without_front (tail_written p engine w) engine) engine
    (completion_events (p.engines engine).slots.running (p.engines engine).slots.pending)

-- ---- no element at work

abbrev pub load_by : PrivateDevice → Result PrivateDevice Reason → Turned
load_by p (Ok q) = turned_as outcomes.Loaded (quietly q)
load_by p (Err reason) = turned_as outcomes.Failed (fails p reason)

-- The running list's next element is loaded; without a running list the engine is idle.
abbrev pub next_by : PrivateDevice → ℕ → List ℕ → Turned
next_by p engine [] = turned_as outcomes.Idle (quietly p)
next_by p engine (descriptor ∷ more) = load_by p (loaded p engine descriptor)

-- ---- a turn

abbrev pub turned_by : PrivateDevice → ℕ → Option Working → Turned
turned_by p engine (Some w) =
    if is_done w.left then turned_as outcomes.Ended (finished p engine w)
    else command_by p engine w (decoded (front_words p engine w))
turned_by p engine None = next_by p engine (p.engines engine).slots.running

-- In failsafe every turn is idle.
abbrev pub turned : PrivateDevice → ℕ → Turned
turned p engine = if p.failsafe then turned_as outcomes.Idle (quietly p) else turned_by p engine (p.engines engine).element
