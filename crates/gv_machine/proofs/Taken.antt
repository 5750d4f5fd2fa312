-- At each line its inputs are taken by the guest that they name, or that owns their engine then.
use Rattle.std.proofs.Common.{◌≡◌, ℕ, ◌+◌, ◌<◌, ◌≤◌, ◌⊎◌, inl, inr, Bool, true, false, List, [], ◌∷◌, ◌++◌, Some, length, get_or, refl, ap, sym, ◌∙◌, subst, arith}
use Rattle.std.proofs.lemmas.List.{get_or_append_left}
use Rattle.std.proofs.lemmas.Bool.{cases_lt}
use Rattle.std.proofs.lemmas.Grind.{common_steps}
use Rattle.std.specs.List.{AllByRecursion}
use Rattle.gv_types.specs.Memory.{bytes_of}
use Rattle.gv_types.specs.declared.event.Event.TheVariants as events
use Rattle.gv_types.specs.declared.event.Place.{Place}
use Rattle.gv_types.specs.declared.event.Width.{Width}
use Rattle.gv_types.specs.declared.ids.GuestId.{GuestId}
use Rattle.gv_balloon.specs.Shares.{next_ranges}
use Rattle.gv_text.specs.Script.{script_of, want_of}
use Rattle.gv_text.specs.declared.script_line.Guest.{Guest as GuestForm}
use Rattle.gv_text.specs.declared.script_line.Line.{Line}
use Rattle.gv_text.specs.declared.script_line.Line.TheVariants.{Blank, Guest, Write, Elsp, Switch, End}
use Rattle.gv_private.specs.Device.{PrivateDevice, new_device}
use Rattle.gv_private.specs.Inputs.{Input, event, turns}
use Rattle.gv_machine.specs.Course.{play}
use Rattle.gv_machine.specs.Laws.{IsTakenBy, AreTaken, TurnsAreTheOwners}
use Rattle.gv_machine.specs.Machine.{Machine, Done, Receiver, device, rota, receiver, received, guest_in, no_ranges, new_machine, device_at, input_course, writes_of, port_writes, port_values, inputs_in, line_course, ranges_in, given_to}
use Rattle.gv_machine.proofs.Devices.{is_of_switch}
use Rattle.gv_machine.proofs.Joined.{length-played, one_added, one_more}
use Rattle.gv_machine.proofs.Named.{AreBelow, IsLine, IsRun, begun_after, line_below, run-script_of}
use Rattle.gv_machine.proofs.OwnCourse.{IsWhole, AreNumbered, ReceivedBelow, goes, whole-input, below-input, whole-played}

abbrev AllTaken : (ℕ → ℕ) → List Done → Type 0
AllTaken owners came = AllByRecursion (IsTakenBy owners) came

both_taken : (owners : ℕ → ℕ) (xs ys : List Done) → AllTaken owners xs → AllTaken owners ys → AllTaken owners (xs ++ ys)
both_taken owners [] ys first second = second
both_taken owners (x ∷ xs) ys first second = (first.0, both_taken owners xs ys first.1 second)

-- ---- inputs

received_taken : (m : Machine) (input : Input) (r : Receiver) → receiver m.owners input ≡ r → AreNumbered m.devices → ReceivedBelow (length m.devices) r → AllTaken m.owners (received m input r).came
received_taken m input (device k) is numbers there = (ap Some (numbers k there) ∙ sym (ap guest_in is), tt)
received_taken m input (rota engine) is numbers there = (refl, tt)

-- none of these switches an engine
abbrev NoSwitches : List Input → Type 0
NoSwitches inputs = AllByRecursion (λ input. is_of_switch input ≡ false) inputs

owners_stay : (m : Machine) (input : Input) → is_of_switch input ≡ false → (input_course m input).left.owners ≡ m.owners
owners_stay m (event (events.Switch engine)) plain = absurd (cc)
owners_stay m (event one) plain = refl
owners_stay m (turns engine count) plain = refl

inputs_taken : (m : Machine) (inputs : List Input) → IsWhole m → AreBelow (length m.devices) inputs → NoSwitches inputs → AllTaken m.owners (play input_course m inputs).came
inputs_taken m [] whole below plain = tt
inputs_taken m (input ∷ inputs) whole below plain =
    let next = (input_course m input).left in
    both_taken m.owners (input_course m input).came (play input_course next inputs).came
    (received_taken m input (receiver m.owners input) refl whole.numbers (goes m input whole below.0))
    (subst (λ (owners : ℕ → ℕ). AllTaken owners (play input_course next inputs).came) (owners_stay m input plain.0)
    (inputs_taken next inputs (whole-input m input whole below.0) (below-input m input whole below.0 inputs below.1) plain.1))

-- ---- lines

writes_plain : (guest : GuestId) (place : Place) (width : Width) (at : ℕ) (values : List ℕ) → NoSwitches (writes_of guest place width at values)
writes_plain guest place width at [] = tt
writes_plain guest place width at (value ∷ values) = (refl, writes_plain guest place width (at + bytes_of width) values)

port_plain : (guest : GuestId) (engine : ℕ) (values : List ℕ) → NoSwitches (port_writes guest engine values)
port_plain guest engine [] = tt
port_plain guest engine (value ∷ values) = (refl, port_plain guest engine values)

abbrev is_switch_line : Line → Bool
is_switch_line (Switch engine) = true
is_switch_line line = false

line_plain : (line : Line) → is_switch_line line ≡ false → NoSwitches (inputs_in line)
line_plain (Write guest place width at values) is = writes_plain (record { 0 = guest }) place width at values
line_plain (Elsp guest engine second first) is = port_plain (record { 0 = guest }) engine (port_values second first)
line_plain (Switch engine) is = absurd (cc)
line_plain (Guest g) is = tt
line_plain Blank is = tt
line_plain End is = tt
line_plain line is = (refl, tt)

line_taken : (begun : Bool) (m : Machine) (line : Line) → IsWhole m → IsLine begun (length m.devices) line → AllTaken m.owners (line_course m line).came
line_taken begun m (Guest g) whole is = tt
line_taken begun m (Switch engine) whole is = (refl, tt)
line_taken begun m line whole is = inputs_taken m (inputs_in line) whole (line_below begun (length m.devices) line is) (line_plain line refl)

-- a list's last element
at_end : (xs : List PrivateDevice) (x d : PrivateDevice) → get_or (xs ++ x ∷ []) (length xs) d ≡ x
at_end xs x d = grind (arith, common_steps)

-- one more guest
module _ (m : Machine) (g : GuestForm) (lines : List Line) (whole : IsWhole m) where
  abbrev more : Machine
  more = one_added m g lines

  abbrev last : PrivateDevice
  last = new_device (length m.devices) g.frames (next_ranges (given_to (ranges_in m.devices)) (want_of g))

  number_at : (k : ℕ) → (k < length m.devices) ⊎ (length m.devices ≤ k) → k < length more.devices → (device_at more.devices k).number ≡ k
  number_at k (inl here) h = ap (λ (p : PrivateDevice). p.number) (get_or_append_left m.devices (last ∷ []) (new_device 0 0 no_ranges) k here) ∙ whole.numbers k here
  number_at k (inr past) h =
      let many = one_more m g lines in
      let same : k ≡ length m.devices = omega arith in
      ap (λ (i : ℕ). (device_at more.devices i).number) same
      ∙ ap (λ (p : PrivateDevice). p.number) (at_end m.devices last (new_device 0 0 no_ranges))
      ∙ sym same

  whole-added : IsWhole more
  whole-added = record {
    numbers = λ k h. number_at k (cases_lt k (length m.devices)) h;
    owners = λ engine. let most = whole.owners engine in let many = one_more m g lines in omega arith;
  }

lines_taken : (begun : Bool) (m : Machine) (lines : List Line) → IsWhole m → IsRun begun (length m.devices) lines → AreTaken m lines
lines_taken begun m [] whole run = tt
lines_taken begun m (Guest g ∷ lines) whole run = (
  tt,
  lines_taken begun (one_added m g lines) lines (whole-added m g lines whole) (subst (λ n. IsRun begun n lines) (sym (one_more m g lines)) run.1),
)
lines_taken begun m (line ∷ lines) whole run =
    let next = (play input_course m (inputs_in line)).left in (
      line_taken begun m line whole run.0,
      lines_taken (begun_after begun line) next lines
          (whole-played m (inputs_in line) whole (line_below begun (length m.devices) line run.0))
          (subst (λ n. IsRun (begun_after begun line) n lines) (sym (length-played m (inputs_in line))) run.1),
    )

pub turns_are_the_owners : TurnsAreTheOwners
turns_are_the_owners source =
    lines_taken false new_machine (script_of source).lines (record { numbers = λ g h. absurd (omega arith); owners = λ engine. omega arith }) (run-script_of source)
