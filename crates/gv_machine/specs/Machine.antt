-- The machine: a private device for each guest, and who owns each engine; the course of inputs that go to them.
use Rattle.std.specs.Prelude.{ℕ, ◌+◌, ◌/◌, ◌%◌, ◌^◌, List, [], ◌∷◌, ◌++◌, Bool, Option, None, Some, length, map, slice_index_or, slice_set}
use Rattle.std.specs.List.{flat_map, sum_by}
use Rattle.gv_types.specs.Maps.{put}
use Rattle.gv_types.specs.Memory.{bytes_of}
use Rattle.gv_types.specs.declared.event.Event.{Event}
use Rattle.gv_types.specs.declared.event.Event.TheVariants as events
use Rattle.gv_types.specs.declared.event.Place.{Place}
use Rattle.gv_types.specs.declared.event.Place.TheVariants.{Registers}
use Rattle.gv_types.specs.declared.event.Width.{Width}
use Rattle.gv_types.specs.declared.event.Width.TheVariants.{Four}
use Rattle.gv_types.specs.declared.ids.EngineId.{EngineId}
use Rattle.gv_types.specs.declared.ids.GuestId.{GuestId}
use Rattle.gv_types.specs.declared.ranges.Ranges.{Ranges}
use Rattle.gv_types.specs.declared.reply.Answer.TheVariants as answers
use Rattle.gv_types.specs.declared.reply.Reply.{Reply}
use Rattle.gv_balloon.specs.Shares.{next_ranges}
use Rattle.gv_balloon.specs.declared.given.Given.{Given}
use Rattle.gv_types.specs.Engines.{register_base}
use Rattle.gv_sched.specs.Rota.{next_owner}
use Rattle.gv_text.specs.Script.{want_of}
use Rattle.gv_text.specs.declared.script_line.Line.{Line}
use Rattle.gv_text.specs.declared.script_line.Line.TheVariants.{Guest, Read, Write, Elsp, Turn, Switch, Move, Reset}
use Rattle.gv_private.specs.Device.{PrivateDevice, new_device}
use Rattle.gv_private.specs.Inputs.{Answered, Input, event, turns, answer, events_in}
use Rattle.gv_private.specs.Turn.{RanCommand}
use Rattle.gv_private.specs.Work.{has_work}
use Rattle.gv_machine.specs.Course.{Course, play}

-- ---- one device

-- what came of an event: the reply, and the commands that ran
pub record Happened : Type 0 where
  pub reply : Reply
  pub ran : List RanCommand

-- What came of an input, event by event, and whose device took it. No guest's takes the switch of an engine.
pub record Done : Type 0 where
  pub whose : Option ℕ
  pub input : Input
  pub events : List Happened

abbrev pub happened : Answered → Happened
happened a = record { reply = a.reply; ran = a.ran }

abbrev pub event_course : PrivateDevice → Event → Course PrivateDevice Happened
event_course p one = record { left = (answer p one).left; came = happened (answer p one) ∷ [] }

abbrev pub device_course : PrivateDevice → Input → Course PrivateDevice Done
device_course p input = record {
  left = (play event_course p (events_in input)).left;
  came = record { whose = Some p.number; input = input; events = (play event_course p (events_in input)).came } ∷ [];
}

-- ---- all devices

-- The devices of the guests, by their numbers, and for each engine the number of the guest that owns it.
pub record Machine : Type 0 where
  pub devices : List PrivateDevice
  pub owners : ℕ → ℕ

-- at first there is no guest, and each engine will be guest 0's
abbrev pub new_machine : Machine
new_machine = record { devices = []; owners = λ engine. 0 }

abbrev pub no_ranges : Ranges
no_ranges = record { low = record { first = 0; pages = 0 }; high = record { first = 0; pages = 0 } }

-- the device of a guest that is there
abbrev pub device_at : List PrivateDevice → ℕ → PrivateDevice
device_at devices g = slice_index_or devices g (new_device 0 0 no_ranges)

-- ---- where inputs go

-- An input goes to a guest's device, or to the rota of an engine.
pub data Receiver : Type 0 where
  device : ℕ → Receiver
  rota : EngineId → Receiver

-- An access, a move and a reset go to the guest that they name, a turn to the engine's owner, a switch to the rota.
abbrev pub event_receiver : (ℕ → ℕ) → Event → Receiver
event_receiver owners (events.Read guest place width at) = device guest.0
event_receiver owners (events.Write guest place width at value) = device guest.0
event_receiver owners (events.Turn engine) = device (owners engine.0)
event_receiver owners (events.Switch engine) = rota engine
event_receiver owners (events.Move guest frame) = device guest.0
event_receiver owners (events.Reset guest) = device guest.0

abbrev pub receiver : (ℕ → ℕ) → Input → Receiver
receiver owners (event one) = event_receiver owners one
receiver owners (turns engine count) = device (owners engine.0)

abbrev pub guest_in : Receiver → Option ℕ
guest_in (device g) = Some g
guest_in (rota engine) = None

-- the guest whose device takes an input
abbrev pub whose : (ℕ → ℕ) → Input → Option ℕ
whose owners input = guest_in (receiver owners input)

-- ---- a switch

-- the guests that have work on an engine
abbrev pub work_on : ℕ → List PrivateDevice → List Bool
work_on engine devices = map (has_work engine) devices

-- the owner of an engine after a switch
abbrev pub owner_after : Machine → ℕ → ℕ
owner_after m engine = next_owner (work_on engine m.devices) (m.owners engine)

-- A switch is told to the new owner.
abbrev pub owner_told : ℕ → Happened
owner_told owner = record { reply = record { guest = record { 0 = owner }; answer = answers.Owner; irq = None; failsafe = None }; ran = [] }

abbrev pub switch_done : EngineId → ℕ → Done
switch_done engine owner = record { whose = None; input = event (events.Switch engine); events = owner_told owner ∷ [] }

-- It gives the engine to the next owner, and changes no device.
abbrev pub switch_course : Machine → EngineId → Course Machine Done
switch_course m engine = record {
  left = record m { owners = put m.owners engine.0 (owner_after m engine.0) };
  came = switch_done engine (owner_after m engine.0) ∷ [];
}

-- ---- inputs

-- an input of one guest's device
abbrev pub guest_course : Machine → ℕ → Input → Course Machine Done
guest_course m g input = record {
  left = record m { devices = slice_set m.devices g (device_course (device_at m.devices g) input).left };
  came = (device_course (device_at m.devices g) input).came;
}

abbrev pub received : Machine → Input → Receiver → Course Machine Done
received m input (device g) = guest_course m g input
received m input (rota engine) = switch_course m engine

abbrev pub input_course : Machine → Input → Course Machine Done
input_course m input = received m input (receiver m.owners input)

-- ---- lines

-- one write for each value, at rising addresses
abbrev pub writes_of : GuestId → Place → Width → ℕ → List ℕ → List Input
writes_of guest place width at [] = []
writes_of guest place width at (value ∷ values) = event (events.Write guest place width at value) ∷ writes_of guest place width (at + bytes_of width) values

-- one write of a dword for each value, all of them to the engine's submission port (ELSP)
abbrev pub port_writes : GuestId → ℕ → List ℕ → List Input
port_writes guest engine values = map (λ value. event (events.Write guest Registers Four (register_base engine + 0x230) value)) values

-- high and low half of the second element's descriptor, and then of the first one's
abbrev pub port_values : ℕ → ℕ → List ℕ
port_values second first = second / 2 ^ 32 ∷ second % 2 ^ 32 ∷ first / 2 ^ 32 ∷ first % 2 ^ 32 ∷ []

-- the inputs that a line stands for
abbrev pub inputs_in : Line → List Input
inputs_in (Read guest place width at) = event (events.Read (record { 0 = guest }) place width at) ∷ []
inputs_in (Write guest place width at values) = writes_of (record { 0 = guest }) place width at values
inputs_in (Elsp guest engine second first) = port_writes (record { 0 = guest }) engine (port_values second first)
inputs_in (Turn engine count) = turns (record { 0 = engine }) count ∷ []
inputs_in (Switch engine) = event (events.Switch (record { 0 = engine })) ∷ []
inputs_in (Move guest frame) = event (events.Move (record { 0 = guest }) frame) ∷ []
inputs_in (Reset guest) = event (events.Reset (record { 0 = guest })) ∷ []
inputs_in line = []

-- the ranges of the devices, and how many pages of either part of the global table they have together
abbrev pub ranges_in : List PrivateDevice → List Ranges
ranges_in devices = map (λ (p : PrivateDevice). p.ranges) devices

abbrev pub given_to : List Ranges → Given
given_to all = record { low = sum_by (λ (r : Ranges). r.low.pages) all; high = sum_by (λ (r : Ranges). r.high.pages) all }

-- A `guest` line adds a device with the next ranges. Any other line's inputs go where they go.
abbrev pub line_course : Machine → Line → Course Machine Done
line_course m (Guest g) = record {
  left = record m { devices = m.devices ++ new_device (length m.devices) g.frames (next_ranges (given_to (ranges_in m.devices)) (want_of g)) ∷ [] };
  came = [];
}
line_course m line = play input_course m (inputs_in line)

-- the commands that ran
abbrev pub ran_of : List Happened → List RanCommand
ran_of came = flat_map (λ (h : Happened). h.ran) came

abbrev pub ran_in : Done → List RanCommand
ran_in done = ran_of done.events

abbrev pub ran_all : List Done → List RanCommand
ran_all came = flat_map ran_in came
