-- A report names no guest but those that there are.
use Rattle.std.proofs.Common.{◌≡◌, ℕ, ◌+◌, ◌<◌, ◌≤◌, Bool, true, false, Option, None, Some, List, [], ◌∷◌, ◌++◌, cond, eqb, length, sym, subst, arith}
use Rattle.std.specs.List.{AllByRecursion, concat, flat_map}
use Rattle.gv_types.specs.declared.event.Event.{Event}
use Rattle.gv_types.specs.declared.event.Event.TheVariants.{Read, Switch, Move, Reset}
use Rattle.gv_types.specs.declared.ids.EngineId.{EngineId}
use Rattle.gv_types.specs.declared.ids.GuestId.{GuestId}
use Rattle.gv_types.specs.declared.reply.Answer.{Answer}
use Rattle.gv_types.specs.declared.reply.Answer.TheVariants.{Value}
use Rattle.gv_types.specs.declared.reply.Reason.{Reason}
use Rattle.gv_types.specs.declared.reply.Reply.{Reply}
use Rattle.gv_private.specs.Device.{PrivateDevice}
use Rattle.gv_private.specs.Inputs.{Input, event, turns}
use Rattle.gv_text.specs.Report.{IsPrintable}
use Rattle.gv_text.specs.declared.ending.Ending.{Ending}
use Rattle.gv_text.specs.declared.ending.Ending.TheVariants.{Done as done, BadScript, TooLong}
use Rattle.gv_text.specs.declared.report_line.ReportLine.{ReportLine}
use Rattle.gv_text.specs.declared.report_line.ReportLine.TheVariants as said
use Rattle.gv_machine.specs.Machine.{Machine, Happened, Done}
use Rattle.gv_machine.specs.Report.{irq_said, failsafe_said, answer_said, alarms_said, told, turn_said, said_by, said_of, said_all, words_said, memories_said, memory_said, ending_said}
use Rattle.gv_machine.proofs.Devices.{NamesGuest, is_switch, is_of_switch}
use Rattle.gv_machine.proofs.Named.{IsInputBelow}
use Rattle.gv_machine.proofs.OwnCourse.{IsTold, IsToldBy}

abbrev pub Printable : List ReportLine → Type 0
Printable lines = AllByRecursion IsPrintable lines

pub printable-append : (xs ys : List ReportLine) → Printable xs → Printable ys → Printable (xs ++ ys)
printable-append [] ys first second = second
printable-append (x ∷ xs) ys first second = (first.0, printable-append xs ys first.1 second)

irq_printable : (guest : GuestId) (irq : Option ℕ) → guest.0 < 8 → Printable (irq_said guest irq)
irq_printable guest None there = tt
irq_printable guest (Some pending) there = (there, tt)

failsafe_printable : (guest : GuestId) (reason : Option Reason) → guest.0 < 8 → Printable (failsafe_said guest reason)
failsafe_printable guest None there = tt
failsafe_printable guest (Some reason) there = (there, tt)

answer_printable : (one : Event) (guest : GuestId) (answer : Answer) → is_switch one ≡ false → guest.0 < 8 → Printable (answer_said one guest answer)
answer_printable (Read from place width at) guest (Value value) is there = (there, tt)
answer_printable (Switch engine) guest answer is there = absurd (cc)
answer_printable (Move from frame) guest answer is there = (there, tt)
answer_printable (Reset from) guest answer is there = (there, tt)
answer_printable one guest answer is there = tt

alarms_printable : (reply : Reply) → reply.guest.0 < 8 → Printable (alarms_said reply)
alarms_printable reply there = printable-append (irq_said reply.guest reply.irq) (failsafe_said reply.guest reply.failsafe) (irq_printable reply.guest reply.irq there) (failsafe_printable reply.guest reply.failsafe there)

told_printable : (one : Event) (reply : Reply) → is_switch one ≡ false → reply.guest.0 < 8 → Printable (told one reply)
told_printable one reply is there = printable-append (alarms_said reply) (answer_said one reply.guest reply.answer) (alarms_printable reply there) (answer_printable one reply.guest reply.answer is there)

each_printable : (f : Happened → List ReportLine) → ((h : Happened) → h.reply.guest.0 < 8 → Printable (f h)) → (k : ℕ) (came : List Happened) → k < 8 → AllByRecursion (NamesGuest k) came → Printable (flat_map f came)
each_printable f printable k [] small names = tt
each_printable f printable k (h ∷ came) small names =
    printable-append (f h) (flat_map f came) (printable h (subst (λ n. n < 8) (sym names.0) small)) (each_printable f printable k came small names.1)

turn_printable : (engine : EngineId) (k : ℕ) (came : List Happened) → k < 8 → engine.0 < 4 → AllByRecursion (NamesGuest k) came → Printable (turn_said engine came)
turn_printable engine k [] small four names = tt
turn_printable engine k (h ∷ came) small four names = ((subst (λ n. n < 8) (sym names.0) small, four), tt)

input_printable : (n : ℕ) (input : Input) (k : ℕ) (came : List Happened) → k < 8 → is_of_switch input ≡ false → IsInputBelow n input → AllByRecursion (NamesGuest k) came → Printable (said_by input came)
input_printable n (event one) k came small taken is names = each_printable (λ (h : Happened). told one h.reply) (λ h. told_printable one h.reply taken) k came small names
input_printable n (turns engine count) k came small taken is names =
    printable-append (flat_map (λ (h : Happened). alarms_said h.reply) came) (turn_said engine came)
    (each_printable (λ (h : Happened). alarms_said h.reply) (λ h. alarms_printable h.reply) k came small names) (turn_printable engine k came small is.1 names)

done_printable : (n : ℕ) (d : Done) (o : Option ℕ) → n ≤ 8 → IsToldBy n d o → Printable (said_of d)
done_printable n d (Some k) few is =
    let there = is.there in
    input_printable n d.input k d.events (omega arith) is.taken is.below is.names
done_printable n d None few (engine, owner, small, there, is) =
    let low : owner < 8 = omega arith in
    subst (λ (d : Done). Printable (said_of d)) (sym is) ((low, small), tt)

-- what came of inputs, told to guests that are there
pub told-printable : (n : ℕ) (came : List Done) → n ≤ 8 → AllByRecursion (IsTold n) came → Printable (said_all came)
told-printable n [] few told = tt
told-printable n (d ∷ came) few told = printable-append (said_of d) (said_all came) (done_printable n d d.whose few told.0) (told-printable n came few told.1)

word_printable : (k at word : ℕ) (b : Bool) → k < 8 → Printable (cond b [] (said.Memory (record { 0 = k }) at word ∷ []))
word_printable k at word true small = tt
word_printable k at word false small = (small, tt)

words_printable : (k at : ℕ) (words : List ℕ) → k < 8 → Printable (words_said k at words)
words_printable k at [] small = tt
words_printable k at (word ∷ words) small =
    printable-append (cond (eqb word 0) [] (said.Memory (record { 0 = k }) at word ∷ [])) (words_said k (at + 8) words) (word_printable k at word (eqb word 0) small) (words_printable k (at + 8) words small)

memories_printable : (k : ℕ) (m : List PrivateDevice) → k + length m ≤ 8 → Printable (memories_said k m)
memories_printable k [] small = tt
memories_printable k (p ∷ m) small =
    let here : k < 8 = omega arith in
    let more : k + 1 + length m ≤ 8 = omega arith in
    printable-append (memory_said k p.memory) (memories_said (k + 1) m) (words_printable k 0 (concat p.memory) here) (memories_printable (k + 1) m more)

pub ending-printable : (ending : Ending) (m : Machine) → length m.devices ≤ 8 → Printable (ending_said ending m)
ending-printable done m small =
    let few : 0 + length m.devices ≤ 8 = omega arith in
    printable-append (memories_said 0 m.devices) (said.Done ∷ []) (memories_printable 0 m.devices few) (tt, tt)
ending-printable (BadScript n) m small = (tt, tt)
ending-printable TooLong m small = (tt, tt)
