-- What a private device makes of its inputs: the replies, the device that is left, and the commands that ran.
use Rattle.std.specs.Prelude.{ℕ, List, [], ◌∷◌, ◌++◌, replicate}
use Rattle.gv_types.specs.declared.event.Event.{Event}
use Rattle.gv_types.specs.declared.event.Event.TheVariants as events
use Rattle.gv_types.specs.declared.ids.EngineId.{EngineId}
use Rattle.gv_types.specs.declared.ids.GuestId.{GuestId}
use Rattle.gv_types.specs.declared.reply.Answer.{Answer}
use Rattle.gv_types.specs.declared.reply.Answer.TheVariants as answers
use Rattle.gv_types.specs.declared.reply.Reply.{Reply}
use Rattle.gv_private.specs.Device.{PrivateDevice, Written, quietly, function_reset}
use Rattle.gv_private.specs.Access.{value_read, value_written}
use Rattle.gv_private.specs.Grants.{move_answer}
use Rattle.gv_private.specs.Turn.{RanCommand, Turned, turned}

-- ---- one event

pub record Answered : Type 0 where
  pub reply : Reply
  pub left : PrivateDevice
  pub ran : List RanCommand

-- A reply tells its guest an answer; IIR of the group of which an interrupt was injected; and the reason where the
-- guest entered failsafe.
abbrev pub reply_of : GuestId → Answer → Written → Reply
reply_of guest answer w = record { guest = guest; answer = answer; irq = w.irq; failsafe = w.reason }

abbrev pub answered : GuestId → Answer → Written → Answered
answered guest answer w = record { reply = reply_of guest answer w; left = w.device; ran = [] }

abbrev pub turn_answered : GuestId → Turned → Answered
turn_answered guest t = record (answered guest (answers.Turn t.outcome) t.left) { ran = t.ran }

-- A read answers its value and changes nothing, a write leaves what it writes, a move changes nothing. A turn is
-- replied to the engine's owner, whose device this is. A switch is no input of a device.
abbrev pub answer : PrivateDevice → Event → Answered
answer p (events.Read guest place width at) = answered guest (answers.Value (value_read p place width at)) (quietly p)
answer p (events.Write guest place width at value) = answered guest answers.Nothing (value_written p place width at value)
answer p (events.Move guest frame) = answered guest (move_answer p frame) (quietly p)
answer p (events.Reset guest) = answered guest answers.Nothing (quietly (function_reset p))
answer p (events.Turn engine) = turn_answered (record { 0 = p.number }) (turned p engine.0)
answer p (events.Switch engine) = answered (record { 0 = p.number }) answers.Nothing (quietly p)

-- ---- inputs

-- What a line of a script gives a device to do, as one unit of the report: an event, or a number of turns of an
-- engine.
pub data Input : Type 0 where
  event : Event → Input
  turns : EngineId → ℕ → Input

abbrev pub events_in : Input → List Event
events_in (event one) = one ∷ []
events_in (turns engine count) = replicate count (events.Turn engine)

-- what comes of events one after another
pub record Told : Type 0 where
  pub replies : List Reply
  pub left : PrivateDevice
  pub ran : List RanCommand

abbrev pub told : PrivateDevice → List Event → Told
told p [] = record { replies = []; left = p; ran = [] }
told p (one ∷ more) = record {
  replies = (answer p one).reply ∷ (told (answer p one).left more).replies;
  left = (told (answer p one).left more).left;
  ran = (answer p one).ran ++ (told (answer p one).left more).ran;
}

-- what comes of an input
abbrev pub input_told : PrivateDevice → Input → Told
input_told p input = told p (events_in input)
