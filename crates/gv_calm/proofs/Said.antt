-- No line of the report of a number's script tells failsafe.
use Rattle.std.proofs.Common.{◌≡◌, ℕ, ◌+◌, Bool, true, false, List, [], ◌∷◌, cond, eqb, refl, Option, None, Some}
use Rattle.std.specs.List.{AllByRecursion, concat, flat_map}
use Rattle.gv_types.specs.declared.event.Event.{Event}
use Rattle.gv_types.specs.declared.event.Event.TheVariants as events
use Rattle.gv_types.specs.declared.ids.GuestId.{GuestId}
use Rattle.gv_types.specs.declared.ids.EngineId.{EngineId}
use Rattle.gv_types.specs.declared.reply.Answer.{Answer}
use Rattle.gv_types.specs.declared.reply.Answer.TheVariants.{Value}
use Rattle.gv_types.specs.declared.reply.Reason.{Reason}
use Rattle.gv_text.specs.declared.ending.Ending.{Ending}
use Rattle.gv_text.specs.declared.ending.Ending.TheVariants.{Done as done, BadScript, TooLong}
use Rattle.gv_text.specs.declared.report_line.ReportLine.{ReportLine}
use Rattle.gv_text.specs.declared.report_line.ReportLine.TheVariants as said
use Rattle.gv_gen.specs.Made.{script_made}
use Rattle.gv_private.specs.Device.{PrivateDevice}
use Rattle.gv_private.specs.Inputs.{Input, event, turns}
use Rattle.gv_machine.specs.Machine.{Machine, Happened, Done, new_machine}
use Rattle.gv_machine.specs.Report.{irq_said, failsafe_said, answer_said, alarms_said, told, turn_said, said_by, said_of, said_all, words_said, memories_said, ending_said, course_of}
use Rattle.gv_calm.specs.Calm.{IsQuiet, AreQuiet, tells_failsafe, NoLineTellsFailsafe}
use Rattle.gv_calm.proofs.Machines.{all-append}
use Rattle.gv_calm.proofs.Quiet.{no_reply_tells_failsafe}

abbrev IsOther : ReportLine → Type 0
IsOther line = tells_failsafe line ≡ false

abbrev AreOther : List ReportLine → Type 0
AreOther lines = AllByRecursion IsOther lines

-- the lines of each, one after another
all_flat : {X : Type 0} (Good : X → Type 0) (f : X → List ReportLine) → ((x : X) → Good x → AreOther (f x)) → (xs : List X) → AllByRecursion Good xs → AreOther (flat_map f xs)
all_flat Good f each [] good = tt
all_flat Good f each (x ∷ xs) good = all-append IsOther (f x) (flat_map f xs) (each x good.0) (all_flat Good f each xs good.1)

irq_other : (guest : GuestId) (pending : Option ℕ) → AreOther (irq_said guest pending)
irq_other guest None = tt
irq_other guest (Some pending) = (refl, tt)

failsafe_other : (guest : GuestId) (reason : Option Reason) → reason ≡ None → AreOther (failsafe_said guest reason)
failsafe_other guest None is = tt
failsafe_other guest (Some reason) is = cc

answer_other : (one : Event) (guest : GuestId) (answer : Answer) → AreOther (answer_said one guest answer)
answer_other (events.Read guest place width at) whose (Value value) = (refl, tt)
answer_other (events.Read guest place width at) whose answer = tt
answer_other (events.Write guest place width at value) whose answer = tt
answer_other (events.Turn engine) whose answer = tt
answer_other (events.Switch engine) whose answer = (refl, tt)
answer_other (events.Move guest frame) whose answer = (refl, tt)
answer_other (events.Reset guest) whose answer = (refl, tt)

alarms_other : (h : Happened) → IsQuiet h → AreOther (alarms_said h.reply)
alarms_other h quiet = all-append IsOther (irq_said h.reply.guest h.reply.irq) (failsafe_said h.reply.guest h.reply.failsafe) (irq_other h.reply.guest h.reply.irq) (failsafe_other h.reply.guest h.reply.failsafe quiet)

told_other : (one : Event) (h : Happened) → IsQuiet h → AreOther (told one h.reply)
told_other one h quiet = all-append IsOther (alarms_said h.reply) (answer_said one h.reply.guest h.reply.answer) (alarms_other h quiet) (answer_other one h.reply.guest h.reply.answer)

turn_other : (engine : EngineId) (came : List Happened) → AreOther (turn_said engine came)
turn_other engine [] = tt
turn_other engine (h ∷ came) = (refl, tt)

said_other : (input : Input) (came : List Happened) → AllByRecursion IsQuiet came → AreOther (said_by input came)
said_other (event one) came quiet = all_flat IsQuiet (λ (h : Happened). told one h.reply) (told_other one) came quiet
said_other (turns engine count) came quiet =
    all-append IsOther (flat_map (λ (h : Happened). alarms_said h.reply) came) (turn_said engine came)
    (all_flat IsQuiet (λ (h : Happened). alarms_said h.reply) alarms_other came quiet) (turn_other engine came)

word_other : (b : Bool) (g : GuestId) (at word : ℕ) → AreOther (cond b [] (said.Memory g at word ∷ []))
word_other true g at word = tt
word_other false g at word = (refl, tt)

words_other : (g at : ℕ) (words : List ℕ) → AreOther (words_said g at words)
words_other g at [] = tt
words_other g at (word ∷ words) =
    all-append IsOther (cond (eqb word 0) [] (said.Memory (record { 0 = g }) at word ∷ [])) (words_said g (at + 8) words) (word_other (eqb word 0) (record { 0 = g }) at word) (words_other g (at + 8) words)

memories_other : (g : ℕ) (devices : List PrivateDevice) → AreOther (memories_said g devices)
memories_other g [] = tt
memories_other g (p ∷ devices) = all-append IsOther (words_said g 0 (concat p.memory)) (memories_said (g + 1) devices) (words_other g 0 (concat p.memory)) (memories_other (g + 1) devices)

ending_other : (ending : Ending) (m : Machine) → AreOther (ending_said ending m)
ending_other done m = all-append IsOther (memories_said 0 m.devices) (said.Done ∷ []) (memories_other 0 m.devices) (refl, tt)
ending_other (BadScript n) m = (refl, tt)
ending_other TooLong m = (refl, tt)

pub no_line_tells_failsafe : NoLineTellsFailsafe
no_line_tells_failsafe number =
    let course = course_of new_machine (script_made number) in
    all-append IsOther (said_all course.came) (ending_said (script_made number).ending course.left)
    (all_flat AreQuiet said_of (λ (d : Done) (quiet : AreQuiet d). said_other d.input d.events quiet) course.came (no_reply_tells_failsafe number))
    (ending_other (script_made number).ending course.left)
