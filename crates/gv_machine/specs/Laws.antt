-- What holds of every script, and of every machine.
use Rattle.std.specs.Prelude.{◌≡◌, ℕ, ◌<◌, List, [], ◌∷◌, Bool, true, false, not, ◌==◌, Some, length, map, filter}
use Rattle.std.specs.List.{AllByRecursion, flat_map}
use Rattle.gv_types.specs.declared.event.Event.{Event}
use Rattle.gv_types.specs.declared.event.Event.TheVariants.{Read, Write, Turn, Switch, Move, Reset}
use Rattle.gv_types.specs.declared.ids.EngineId.{EngineId}
use Rattle.gv_sched.specs.Rota.{Owners, first_owners, owner_of, switched, IsNextOwner}
use Rattle.gv_text.specs.Guest.{lines_of_guest}
use Rattle.gv_text.specs.Script.{script_of}
use Rattle.gv_text.specs.declared.script_line.Line.{Line}
use Rattle.gv_private.specs.Device.{PrivateDevice}
use Rattle.gv_private.specs.Inputs.{Input, event, turns, Told, told}
use Rattle.gv_private.specs.Laws.{SameGuest}
use Rattle.gv_private.specs.Turn.{RanCommand}
use Rattle.gv_machine.specs.Course.{Course, play}
use Rattle.gv_machine.specs.Machine.{Machine, new_machine, Happened, Done, device, device_at, event_course, receiver, whose, work_on, owner_after, input_course, inputs_in, line_course, ran_of, ran_in, ran_all}
use Rattle.gv_machine.specs.Report.{report_of, machine_of, commands_in, course_of}
use Rattle.gv_machine.specs.Solo.{solo, guests_of, frames_of, ranges_of, inputs_of, is_done_ending}

-- ---- what guests are told

-- Each guest's lines of a text are the report of its own device alone: a function of its number, its
-- frames, its ranges, its inputs, and whether the script ends with `end`.
abbrev pub IsPrivate : List ℕ → List ℕ → Type 0
IsPrivate source text =
    (g : ℕ) → g < length (guests_of (script_of source).lines) →
    lines_of_guest g text ≡ solo g (frames_of (script_of source).lines g) (ranges_of (script_of source).lines g) (inputs_of g (script_of source).lines) (is_done_ending (script_of source).ending)

abbrev pub EachGuestIsToldItsOwn : Type 0
EachGuestIsToldItsOwn = (source : List ℕ) → IsPrivate source (report_of source)

-- Two scripts that a guest can't tell apart: they have the guest, with the same frames, ranges and
-- inputs, and either both end with `end` or neither does.
pub record LooksAlike (g : ℕ) (a b : List ℕ) : Type 0 where
  pub first : g < length (guests_of (script_of a).lines)
  pub second : g < length (guests_of (script_of b).lines)
  pub frames : frames_of (script_of a).lines g ≡ frames_of (script_of b).lines g
  pub ranges : ranges_of (script_of a).lines g ≡ ranges_of (script_of b).lines g
  pub inputs : inputs_of g (script_of a).lines ≡ inputs_of g (script_of b).lines
  pub done : is_done_ending (script_of a).ending ≡ is_done_ending (script_of b).ending

-- whatever other guests do, the guest is told the same
abbrev pub EqualGuestsAreToldTheSame : Type 0
EqualGuestsAreToldTheSame = (g : ℕ) (a b : List ℕ) → LooksAlike g a b → lines_of_guest g (report_of a) ≡ lines_of_guest g (report_of b)

-- ---- owners of engines

-- a rota is of as many guests, and has the machine's owners
pub record HasOwners (s : Owners) (m : Machine) : Type 0 where
  pub guests : s.guests ≡ length m.devices
  pub owners : m.owners ≡ owner_of s

-- A new rota has the owners of a machine whose engines weren't switched.
abbrev pub FirstOwnersAreTheRotas : Type 0
FirstOwnersAreTheRotas = (devices : List PrivateDevice) → HasOwners (first_owners (length devices)) (record new_machine { devices = devices })

-- A switch gives an engine the same new owner in the rota and in the machine.
abbrev pub SwitchesAreTheRotas : Type 0
SwitchesAreTheRotas =
    (s : Owners) (m : Machine) (engine : EngineId) → engine.0 < 4 → length s.owners ≡ 4 → HasOwners s m
    → HasOwners (switched s engine.0 (work_on engine.0 m.devices)) (input_course m (event (Switch engine))).left

-- It is the first guest with work, going round once.
abbrev pub SwitchesGoRound : Type 0
SwitchesGoRound = (m : Machine) (engine : ℕ) → m.owners engine < length m.devices → IsNextOwner (work_on engine m.devices) (m.owners engine) (owner_after m engine)

-- A switch changes no device.
abbrev pub SwitchesKeepDevices : Type 0
SwitchesKeepDevices = (m : Machine) (engine : EngineId) → (input_course m (event (Switch engine))).left.devices ≡ m.devices

-- No input of a guest's device changes an owner.
abbrev pub DevicesKeepOwners : Type 0
DevicesKeepOwners = (m : Machine) (input : Input) (g : ℕ) → receiver m.owners input ≡ device g → (input_course m input).left.owners ≡ m.owners

-- ---- what comes of an input

abbrev pub told_of : Course PrivateDevice Happened → Told
told_of c = record {
  replies = map (λ (h : Happened). h.reply) c.came;
  left = c.left;
  ran = ran_of c.came;
}

-- What comes of events, one by one, is what the device makes of them.
abbrev pub CoursesAreTold : Type 0
CoursesAreTold = (p : PrivateDevice) (events : List Event) → told_of (play event_course p events) ≡ told p events

-- ---- the journal

abbrev pub is_turn : Event → Bool
is_turn (Turn engine) = true
is_turn other = false

abbrev pub is_of_turns : Input → Bool
is_of_turns (event one) = is_turn one
is_of_turns (turns engine count) = true

-- The commands that ran are those of the turns, in their order.
abbrev pub TurnsAloneRun : Type 0
TurnsAloneRun = (source : List ℕ) → commands_in source ≡ ran_all (filter (λ (d : Done). is_of_turns d.input) (course_of new_machine (script_of source)).came)

-- each command of an input is of the guest whose device took the input
abbrev pub IsSigned : Done → Type 0
IsSigned d = AllByRecursion (λ (entry : RanCommand). d.whose ≡ Some entry.guest) (ran_in d)

-- Every command stands with the guest whose device ran it.
abbrev pub CommandsAreSigned : Type 0
CommandsAreSigned = (source : List ℕ) → AllByRecursion IsSigned (course_of new_machine (script_of source)).came

-- ---- guests stay

-- as many devices, each of the same guest, with as many frames and the same ranges
pub record SameGuests (m n : Machine) : Type 0 where
  pub count : length n.devices ≡ length m.devices
  pub each : (g : ℕ) → g < length m.devices → SameGuest (device_at m.devices g) (device_at n.devices g)

-- Whatever inputs come, the guests stay.
abbrev pub GuestsStay : Type 0
GuestsStay = (m : Machine) (inputs : List Input) → SameGuests m (play input_course m inputs).left

-- a device of guest g of a script: with its number, frames and ranges
pub record IsOfGuest (lines : List Line) (g : ℕ) (p : PrivateDevice) : Type 0 where
  pub number : p.number ≡ g
  pub frames : length p.memory ≡ frames_of lines g
  pub ranges : p.ranges ≡ ranges_of lines g

-- a device for each guest of a script
pub record HasGuests (lines : List Line) (m : Machine) : Type 0 where
  pub count : length m.devices ≡ length (guests_of lines)
  pub each : (g : ℕ) → g < length (guests_of lines) → IsOfGuest lines g (device_at m.devices g)

-- In the end a script's machine has these.
abbrev pub MachinesHaveTheirGuests : Type 0
MachinesHaveTheirGuests = (source : List ℕ) → HasGuests (script_of source).lines (machine_of source)

-- ---- a guest's inputs

-- whether an input names the guest; turns and switches name none
abbrev pub names_event : ℕ → Event → Bool
names_event g (Read guest place width at) = guest.0 == g
names_event g (Write guest place width at value) = guest.0 == g
names_event g (Move guest frame) = guest.0 == g
names_event g (Reset guest) = guest.0 == g
names_event g other = false

abbrev pub names : ℕ → Input → Bool
names g (event one) = names_event g one
names g (turns engine count) = false

-- A guest's inputs other than turns are those of the script's lines that name it, in their order.
abbrev pub InputsNameTheirGuest : Type 0
InputsNameTheirGuest =
    (source : List ℕ) (g : ℕ)
    → filter (λ input. not (is_of_turns input)) (inputs_of g (script_of source).lines) ≡ filter (names g) (flat_map inputs_in (script_of source).lines)

-- what came of an input was taken by the guest that it names, or by the owner of its engine
abbrev pub IsTakenBy : (ℕ → ℕ) → Done → Type 0
IsTakenBy owners d = d.whose ≡ whose owners d.input

-- so it is at each line, by the owners at that line
abbrev pub AreTaken : Machine → List Line → Type 0
AreTaken m [] = Unit {0}
AreTaken m (line ∷ lines) = AllByRecursion (IsTakenBy m.owners) (line_course m line).came × AreTaken (line_course m line).left lines

abbrev pub TurnsAreTheOwners : Type 0
TurnsAreTheOwners = (source : List ℕ) → AreTaken new_machine (script_of source).lines
