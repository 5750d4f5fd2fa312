-- The report of a script: what came of its inputs, line by line, and then by the ending.
use Rattle.std.specs.Prelude.{ℕ, ◌+◌, List, [], ◌∷◌, ◌++◌, Bool, true, false, Option, None, Some, if◌then◌else◌, ◌==◌, map, count_by}
use Rattle.std.specs.List.{concat, flat_map}
use Rattle.gv_types.specs.Memory.{Memory}
use Rattle.gv_types.specs.declared.event.Event.{Event}
use Rattle.gv_types.specs.declared.event.Event.TheVariants as events
use Rattle.gv_types.specs.declared.reply.Answer.{Answer}
use Rattle.gv_types.specs.declared.reply.Answer.TheVariants.{Value, Turn, Moved}
use Rattle.gv_types.specs.declared.reply.Outcome.TheVariants as outcomes
use Rattle.gv_types.specs.declared.reply.Reason.{Reason}
use Rattle.gv_types.specs.declared.ids.EngineId.{EngineId}
use Rattle.gv_types.specs.declared.ids.GuestId.{GuestId}
use Rattle.gv_types.specs.declared.reply.Reply.{Reply}
use Rattle.gv_private.specs.Device.{PrivateDevice}
use Rattle.gv_private.specs.Inputs.{Input, event, turns}
use Rattle.gv_private.specs.Turn.{RanCommand}
use Rattle.gv_text.specs.Report.{text_of}
use Rattle.gv_text.specs.Script.{Script, script_of}
use Rattle.gv_text.specs.declared.ending.Ending.{Ending}
use Rattle.gv_text.specs.declared.ending.Ending.TheVariants.{Done as done, BadScript, TooLong}
use Rattle.gv_text.specs.declared.report_line.ReportLine.{ReportLine}
use Rattle.gv_text.specs.declared.report_line.ReportLine.TheVariants as said
use Rattle.gv_machine.specs.Course.{Course, play}
use Rattle.gv_machine.specs.Machine.{Machine, new_machine, Happened, Done, line_course, ran_all}

-- an interrupt that was injected, with the pending bits then
abbrev pub irq_said : GuestId → Option ℕ → List ReportLine
irq_said guest None = []
irq_said guest (Some pending) = said.Irq guest pending ∷ []

-- that the guest entered failsafe
abbrev pub failsafe_said : GuestId → Option Reason → List ReportLine
failsafe_said guest None = []
failsafe_said guest (Some reason) = said.Failsafe guest reason ∷ []

abbrev pub is_moved : Answer → Bool
is_moved Moved = true
is_moved answer = false

-- What an event's answer is told as: a read tells its value, a switch the new owner, a move whether the frame moved,
-- and a function reset itself.
abbrev pub answer_said : Event → GuestId → Answer → List ReportLine
answer_said (events.Read guest place width at) whose (Value value) = said.Read whose place width at value ∷ []
answer_said (events.Switch engine) whose answer = said.Rota engine whose ∷ []
answer_said (events.Move guest frame) whose answer = said.Move whose frame (is_moved answer) ∷ []
answer_said (events.Reset guest) whose answer = said.Reset whose ∷ []
answer_said one whose answer = []

-- An interrupt and failsafe are told as they happen.
abbrev pub alarms_said : Reply → List ReportLine
alarms_said reply = irq_said reply.guest reply.irq ++ failsafe_said reply.guest reply.failsafe

-- They come before the event's own line.
abbrev pub told : Event → Reply → List ReportLine
told one reply = alarms_said reply ++ answer_said one reply.guest reply.answer

-- how many turns ran, waited, ended, loaded, failed and were idle
abbrev pub column_of : Answer → ℕ
column_of (Turn outcomes.Ran) = 0
column_of (Turn outcomes.Waited) = 1
column_of (Turn outcomes.Ended) = 2
column_of (Turn outcomes.Loaded) = 3
column_of (Turn outcomes.Failed) = 4
column_of (Turn outcomes.Idle) = 5
column_of answer = 6

abbrev pub counts_of : List Happened → List ℕ
counts_of came = map (λ column. count_by (λ (h : Happened). column_of h.reply.answer == column) came) (0 ∷ 1 ∷ 2 ∷ 3 ∷ 4 ∷ 5 ∷ [])

-- the line of some turns, of the guest that owns the engine
abbrev pub turn_said : EngineId → List Happened → List ReportLine
turn_said engine [] = []
turn_said engine (h ∷ came) = said.Turn h.reply.guest engine (counts_of (h ∷ came)) ∷ []

abbrev pub said_by : Input → List Happened → List ReportLine
said_by (event one) came = flat_map (λ (h : Happened). told one h.reply) came
said_by (turns engine count) came = flat_map (λ (h : Happened). alarms_said h.reply) came ++ turn_said engine came

abbrev pub said_of : Done → List ReportLine
said_of d = said_by d.input d.events

abbrev pub said_all : List Done → List ReportLine
said_all came = flat_map said_of came

-- the words from an address on that aren't 0
abbrev pub words_said : ℕ → ℕ → List ℕ → List ReportLine
words_said g at [] = []
words_said g at (word ∷ words) = (if word == 0 then [] else said.Memory (record { 0 = g }) at word ∷ []) ++ words_said g (at + 8) words

abbrev pub memory_said : ℕ → Memory → List ReportLine
memory_said g m = words_said g 0 (concat m)

-- the memory of the guests from number g on
abbrev pub memories_said : ℕ → List PrivateDevice → List ReportLine
memories_said g [] = []
memories_said g (p ∷ devices) = memory_said g p.memory ++ memories_said (g + 1) devices

-- what is said at the end, by the machine then
abbrev pub ending_said : Ending → Machine → List ReportLine
ending_said done m = memories_said 0 m.devices ++ said.Done ∷ []
ending_said (BadScript n) m = said.Refused n ∷ []
ending_said TooLong m = said.TooLong ∷ []

-- the course of a script's lines, from a machine on
abbrev pub course_of : Machine → Script → Course Machine Done
course_of m script = play line_course m script.lines

abbrev pub script_said : Machine → Script → List ReportLine
script_said m script = said_all (course_of m script).came ++ ending_said script.ending (course_of m script).left

unfoldable pub report_of : List ℕ → List ℕ
report_of source = text_of (script_said new_machine (script_of source))

-- how the script ends
unfoldable pub ending_of : List ℕ → Ending
ending_of source = (script_of source).ending

-- the machine in the end
unfoldable pub machine_of : List ℕ → Machine
machine_of source = (course_of new_machine (script_of source)).left

-- the commands that the devices ran, in order
unfoldable pub commands_in : List ℕ → List RanCommand
commands_in source = ran_all (course_of new_machine (script_of source)).came
