-- The commands that ran are those of turns.
use Rattle.std.proofs.Common.{◌≡◌, Bool, true, false, List, [], ◌∷◌, ◌++◌, cond, filter, refl, ap, ◌∙◌}
use Rattle.std.specs.List.{AllByRecursion}
use Rattle.gv_types.specs.declared.event.Event.{Event}
use Rattle.gv_types.specs.declared.event.Event.TheVariants.{Turn}
use Rattle.gv_text.specs.Script.{script_of}
use Rattle.gv_text.specs.declared.script_line.Line.{Line}
use Rattle.gv_text.specs.declared.script_line.Line.TheVariants.{Guest}
use Rattle.gv_private.specs.Device.{PrivateDevice}
use Rattle.gv_private.specs.Inputs.{Input, event, turns, answer}
use Rattle.gv_private.specs.Turn.{RanCommand}
use Rattle.gv_machine.specs.Course.{play}
use Rattle.gv_machine.specs.Laws.{TurnsAloneRun, is_turn, is_of_turns}
use Rattle.gv_machine.specs.Machine.{Machine, Done, Receiver, device, rota, receiver, received, new_machine, device_at, device_course, input_course, inputs_in, line_course, ran_in, ran_all}
use Rattle.gv_machine.specs.Report.{course_of, commands_in}

-- of all that isn't turns, nothing ran
abbrev pub RanByTurns : List Done → Type 0
RanByTurns came = AllByRecursion (λ (d : Done). is_of_turns d.input ≡ false → ran_in d ≡ []) came

event_quiet : (p : PrivateDevice) (one : Event) → is_turn one ≡ false → (answer p one).ran ++ [] ≡ []
event_quiet p (Turn engine) is = absurd (cc)
event_quiet p one is = refl

device_ran : (p : PrivateDevice) (input : Input) → RanByTurns (device_course p input).came
device_ran p (event one) = (λ is. event_quiet p one is, tt)
device_ran p (turns engine count) = (λ is. absurd (cc), tt)

received_ran : (m : Machine) (input : Input) (r : Receiver) → RanByTurns (received m input r).came
received_ran m input (device g) = device_ran (device_at m.devices g) input
received_ran m input (rota engine) = (λ is. refl, tt)

both_ran : (xs ys : List Done) → RanByTurns xs → RanByTurns ys → RanByTurns (xs ++ ys)
both_ran [] ys first second = second
both_ran (x ∷ xs) ys first second = (first.0, both_ran xs ys first.1 second)

inputs_ran : (m : Machine) (inputs : List Input) → RanByTurns (play input_course m inputs).came
inputs_ran m [] = tt
inputs_ran m (input ∷ inputs) =
    both_ran (input_course m input).came (play input_course (input_course m input).left inputs).came
    (received_ran m input (receiver m.owners input)) (inputs_ran (input_course m input).left inputs)

line_ran : (m : Machine) (line : Line) → RanByTurns (line_course m line).came
line_ran m (Guest g) = tt
line_ran m line = inputs_ran m (inputs_in line)

lines_ran : (m : Machine) (lines : List Line) → RanByTurns (play line_course m lines).came
lines_ran m [] = tt
lines_ran m (line ∷ lines) = both_ran (line_course m line).came (play line_course (line_course m line).left lines).came (line_ran m line) (lines_ran (line_course m line).left lines)

abbrev of_turns : List Done → List Done
of_turns came = filter (λ (d : Done). is_of_turns d.input) came

by_kind : (d : Done) (came : List Done) (b : Bool) → is_of_turns d.input ≡ b → (is_of_turns d.input ≡ false → ran_in d ≡ []) → ran_all came ≡ ran_all (of_turns came) → ran_in d ++ ran_all came ≡ ran_all (cond b (d ∷ of_turns came) (of_turns came))
by_kind d came true is quiet more = ap (λ (z : List RanCommand). ran_in d ++ z) more
by_kind d came false is quiet more = ap (λ (z : List RanCommand). z ++ ran_all came) (quiet is) ∙ more

turns_ran : (came : List Done) → RanByTurns came → ran_all came ≡ ran_all (of_turns came)
turns_ran [] quiet = refl
turns_ran (d ∷ came) quiet = by_kind d came (is_of_turns d.input) refl quiet.0 (turns_ran came quiet.1)

pub turns_alone_run : TurnsAloneRun
unfolding commands_in
turns_alone_run source = turns_ran (course_of new_machine (script_of source)).came (lines_ran new_machine (script_of source).lines)
