-- A line of events, by what is known of the guests.
use Rattle.std.proofs.Common.{◌≡◌, ℕ, ◌<◌, Bool, true, false, not, ◌&&◌, List, [], ◌++◌, length, refl, ap, sym, ◌∙◌, subst, arith}
use Rattle.std.proofs.lemmas.Bool.{ltb-true}
use Rattle.std.proofs.lemmas.Bool.Decides.{nat_tests}
use Rattle.gv_gpu.specs.Change.{Ran, RanPart}
use Rattle.gv_gpu.specs.Device.{Device, JournalEntry}
use Rattle.gv_machine.specs.Course.{Course, play}
use Rattle.gv_machine.specs.Machine.{Machine, Done, input_course, inputs_in, line_course}
use Rattle.gv_mediator.specs.Tied.{machine_of}
use Rattle.gv_mediator.specs.declared.mediator.Mediator.{Mediator}
use Rattle.gv_machine.specs.Report.{said_all}
use Rattle.gv_text.specs.Report.{text_of}
use Rattle.gv_text.specs.Grammar.{IsForm}
use Rattle.gv_text.specs.Script.{accepts, has_room, known_after, is_end}
use Rattle.gv_text.specs.declared.known.Known.{Known}
use Rattle.gv_text.specs.declared.script_line.Guest.{Guest as GuestForm}
use Rattle.gv_text.specs.declared.script_line.Line.{Line}
use Rattle.gv_text.specs.declared.script_line.Line.TheVariants.{Blank, Guest, Read, Write, Elsp, Turn, Switch, Move, Reset, End}
use Rattle.gv_run.specs.Lines.{IsEventLine, is_event_line}
use Rattle.gv_run.specs.Tied.{HasKnown, Agrees, Stands, Plays, entries_in}
use Rattle.gv_run.specs.declared.stage.Stage.{Stage}
use Rattle.gv_run.specs.declared.stage.Stage.TheVariants.{Running}
use Rattle.gv_run.proofs.Guests.{made-of}
use Rattle.gv_run.proofs.Left.{ran-then}

module _ (m : Machine) (known : Known) (has : HasKnown m known) where
  among : (g : ℕ) → g < known.guests → g < length m.devices
  among g there = subst (λ n. g < n) (sym has.count) there

  pub event-line : (line : Line) → accepts known line ≡ true → IsForm line → is_event_line line ≡ true → IsEventLine m line
  event-line Blank is form event = absurd (cc)
  event-line (Guest guest) is form event = absurd (cc)
  event-line (Read guest place width at) is form event = (among guest (ltb-true guest known.guests is), form.1, form.2)
  event-line (Write guest place width at values) is form event = (among guest (ltb-true guest known.guests is), form.1, form.4, form.5)
  event-line (Elsp guest engine second first) is form event = (among guest (grind (arith, nat_tests)), grind (arith, nat_tests))
  event-line (Turn engine count) is form event = (among 0 (grind (arith, nat_tests)), grind (arith, nat_tests))
  event-line (Switch engine) is form event = (among 0 (grind (arith, nat_tests)), grind (arith, nat_tests))
  event-line (Move guest frame) is form event =
      let there : guest < known.guests = grind (arith, nat_tests) in
      (among guest there, subst (λ n. frame < n) (sym (has.sizes guest there)) (grind (arith, nat_tests)))
  event-line (Reset guest) is form event = among guest (ltb-true guest known.guests is)
  event-line End is form event = absurd (cc)

-- some guest is there
pub some-known : (known : Known) (line : Line) → accepts known line ≡ true → is_event_line line ≡ true → 0 < known.guests
some-known known Blank is event = absurd (cc)
some-known known (Guest guest) is event = absurd (cc)
some-known known End is event = absurd (cc)
some-known known line is event = grind (arith, nat_tests)

pub known-event : (known : Known) (line : Line) → is_event_line line ≡ true → known_after known line ≡ record known { begun = true }
known-event known Blank event = absurd (cc)
known-event known (Guest guest) event = absurd (cc)
known-event known line event = refl

course-event : (m : Machine) (line : Line) → is_event_line line ≡ true → play input_course m (inputs_in line) ≡ line_course m line
course-event m (Guest guest) event = absurd (cc)
course-event m line event = refl

-- nothing ran before
pub part-behind : {d e f : Device} {xs : List JournalEntry} → Ran d e [] → RanPart e f xs → RanPart d f xs
part-behind {d} {e} {f} {xs} none part = record { left = part.left; part = record { done = part.part.done; ran = ran-then none part.part.ran; front = part.part.front } }

-- The devices were made where they weren't yet, and then the line was run.
module _ (d e f : Device) (m first : Machine) (line : Line) (same : m ≡ first) (event : is_event_line line ≡ true) (none : Ran d e []) where
  course-same : play input_course m (inputs_in line) ≡ line_course first line
  course-same = ap (λ (k : Machine). play input_course k (inputs_in line)) same ∙ course-event first line event

  pub event-part : RanPart e f (entries_in (play input_course m (inputs_in line)).came) → RanPart d f (entries_in (line_course first line).came)
  event-part part = subst (λ (c : Course Machine Done). RanPart d f (entries_in c.came)) course-same (part-behind none part)

  pub event-plays : (told before now : List ℕ) (after : Machine) → told ≡ before → Plays (play input_course m (inputs_in line)) e told f after now → Plays (line_course first line) d before f after now
  event-plays told before now after is plays = subst (λ (c : Course Machine Done). Plays c d before f after now) course-same (record {
    machine = plays.machine;
    report = plays.report ∙ ap (λ z. z ++ text_of (said_all (play input_course m (inputs_in line)).came)) is;
    ran = ran-then none plays.ran;
  })

-- the devices stand, where they were made
pub stands-of : (d : Device) (known : Known) (stage : Stage) (m : Mediator) → Agrees d known stage → stage ≡ Running m → Stands d m
stands-of d known stage m agrees is = made-of d known (Running m) (subst (Agrees d known) is agrees) refl

pub known-stage : (d : Device) (known : Known) (stage : Stage) (m : Mediator) → Agrees d (record known { begun = true }) stage → stage ≡ Running m → HasKnown (machine_of d m) known
known-stage d known stage m agrees is =
    let has = (subst (Agrees d (record known { begun = true })) is agrees).guests in
    record { whole = has.whole; count = has.count; sizes = has.sizes; room = has.room; eight = has.eight }

-- ---- a `guest` line is accepted

not-first : (a b : Bool) → (not a && b) ≡ true → a ≡ false
not-first true b is = cc
not-first false b is = refl

and-second : (a b : Bool) → (not a && b) ≡ true → b ≡ true
and-second true b is = cc
and-second false b is = is

pub guest-early : (known : Known) (guest : GuestForm) → accepts known (Guest guest) ≡ true → known.begun ≡ false
guest-early known guest is = not-first known.begun (has_room known guest) is

pub guest-room : (known : Known) (guest : GuestForm) → accepts known (Guest guest) ≡ true → has_room known guest ≡ true
guest-room known guest is = and-second known.begun (has_room known guest) is

-- some guest is there, where `end` is accepted
pub end-known : (known : Known) (line : Line) → is_end line ≡ true → accepts known line ≡ true → 0 < known.guests
end-known known End last is = ltb-true 0 known.guests is
end-known known line last is = absurd (cc)
