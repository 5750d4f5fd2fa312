-- Each command that ran stands in the journal with the guest whose device ran it.
use Rattle.std.proofs.Common.{◌≡◌, ℕ, Bool, true, false, List, [], ◌∷◌, ◌++◌, Option, None, Some, Result, Ok, Err, cond, refl, subst}
use Rattle.std.specs.List.{AllByRecursion}
use Rattle.gv_types.specs.declared.event.Event.{Event}
use Rattle.gv_types.specs.declared.event.Event.TheVariants.{Turn}
use Rattle.gv_types.specs.declared.reply.Reason.{Reason}
use Rattle.gv_cmd.specs.Allowed.{is_allowed}
use Rattle.gv_cmd.specs.Command.{decoded}
use Rattle.gv_cmd.specs.declared.command.Unlisted.{Unlisted}
use Rattle.gv_fetch.specs.Left.{is_done, stands_of}
use Rattle.gv_text.specs.Script.{script_of}
use Rattle.gv_text.specs.declared.script_line.Line.{Line}
use Rattle.gv_text.specs.declared.script_line.Line.TheVariants.{Guest}
use Rattle.gv_private.specs.Device.{PrivateDevice, Working}
use Rattle.gv_private.specs.Inputs.{Input, answer, events_in}
use Rattle.gv_private.specs.Load.{loaded}
use Rattle.gv_private.specs.Space.{PrivateSpace}
use Rattle.gv_private.specs.Turn.{RanCommand, Turned, turned, turned_by, next_by, load_by, command_by, run_by, front_words, front_effect}
use Rattle.gv_private.proofs.Stays.{guest_stays}
use Rattle.gv_machine.specs.Course.{play}
use Rattle.gv_machine.specs.Laws.{IsSigned, CommandsAreSigned}
use Rattle.gv_machine.specs.Machine.{Machine, Done, Receiver, device, rota, receiver, received, new_machine, device_at, event_course, input_course, inputs_in, line_course, ran_of}

-- these entries are guest n's
abbrev AreOf : ℕ → List RanCommand → Type 0
AreOf n ran = AllByRecursion (λ (entry : RanCommand). Some n ≡ Some entry.guest) ran

-- ---- a turn

module _ (p : PrivateDevice) (engine : ℕ) where
  abbrev Runs : Turned → Type 0
  Runs t = AreOf p.number t.ran

  by_test : (b : Bool) (t u : Turned) → Runs t → Runs u → Runs (cond b t u)
  by_test true t u first second = first
  by_test false t u first second = second

  run_signed : (w : Working) (ws : List ℕ) (dwords : ℕ) (s : PrivateSpace) (bits : Option ℕ) → Runs (run_by p engine w ws dwords s bits)
  run_signed w ws dwords s None = tt
  run_signed w ws dwords s (Some bits) = (refl, tt)

  command_signed : (w : Working) (r : Result (List ℕ × ℕ) Unlisted) → Runs (command_by p engine w r)
  command_signed w (Err unlisted) = tt
  command_signed w (Ok (ws, dwords)) =
      by_test (is_allowed ws (stands_of w.left) engine) (run_by p engine w ws dwords (front_effect p engine w ws).after (front_effect p engine w ws).raise) _
      (run_signed w ws dwords (front_effect p engine w ws).after (front_effect p engine w ws).raise) tt

  load_signed : (r : Result PrivateDevice Reason) → Runs (load_by p r)
  load_signed (Ok q) = tt
  load_signed (Err reason) = tt

  next_signed : (running : List ℕ) → Runs (next_by p engine running)
  next_signed [] = tt
  next_signed (descriptor ∷ more) = load_signed (loaded p engine descriptor)

  turned_signed : (element : Option Working) → Runs (turned_by p engine element)
  turned_signed (Some w) = by_test (is_done w.left) _ (command_by p engine w (decoded (front_words p engine w))) tt (command_signed w (decoded (front_words p engine w)))
  turned_signed None = next_signed (p.engines engine).slots.running

  turn_signed : Runs (turned p engine)
  turn_signed = by_test p.failsafe _ (turned_by p engine (p.engines engine).element) tt (turned_signed (p.engines engine).element)

-- ---- inputs

answer_signed : (p : PrivateDevice) (one : Event) → AreOf p.number (answer p one).ran
answer_signed p (Turn engine) = turn_signed p engine.0
answer_signed p one = tt

all_append : (n : ℕ) (xs ys : List RanCommand) → AreOf n xs → AreOf n ys → AreOf n (xs ++ ys)
all_append n [] ys first second = second
all_append n (x ∷ xs) ys first second = (first.0, all_append n xs ys first.1 second)

events_signed : (p : PrivateDevice) (events : List Event) → AreOf p.number (ran_of (play event_course p events).came)
events_signed p [] = tt
events_signed p (one ∷ events) =
    let next = (answer p one).left in
    all_append p.number (answer p one).ran (ran_of (play event_course next events).came) (answer_signed p one)
    (subst (λ n. AreOf n (ran_of (play event_course next events).came)) (guest_stays p one).number (events_signed next events))

-- ---- courses

abbrev AreSigned : List Done → Type 0
AreSigned came = AllByRecursion IsSigned came

received_signed : (m : Machine) (input : Input) (r : Receiver) → AreSigned (received m input r).came
received_signed m input (device g) = (events_signed (device_at m.devices g) (events_in input), tt)
received_signed m input (rota engine) = (tt, tt)

both_signed : (xs ys : List Done) → AreSigned xs → AreSigned ys → AreSigned (xs ++ ys)
both_signed [] ys first second = second
both_signed (x ∷ xs) ys first second = (first.0, both_signed xs ys first.1 second)

inputs_signed : (m : Machine) (inputs : List Input) → AreSigned (play input_course m inputs).came
inputs_signed m [] = tt
inputs_signed m (input ∷ inputs) =
    both_signed (input_course m input).came (play input_course (input_course m input).left inputs).came
    (received_signed m input (receiver m.owners input)) (inputs_signed (input_course m input).left inputs)

line_signed : (m : Machine) (line : Line) → AreSigned (line_course m line).came
line_signed m (Guest g) = tt
line_signed m line = inputs_signed m (inputs_in line)

lines_signed : (m : Machine) (lines : List Line) → AreSigned (play line_course m lines).came
lines_signed m [] = tt
lines_signed m (line ∷ lines) = both_signed (line_course m line).came (play line_course (line_course m line).left lines).came (line_signed m line) (lines_signed (line_course m line).left lines)

pub commands_are_signed : CommandsAreSigned
commands_are_signed source = lines_signed new_machine (script_of source).lines
