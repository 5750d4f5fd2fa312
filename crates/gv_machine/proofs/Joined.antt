-- A script's lines are its inputs, over the devices of all its guests.
use Rattle.std.proofs.Common.{◌≡◌, ℕ, zero, suc, ◌+◌, ◌<◌, Bool, true, List, [], ◌∷◌, ◌++◌, length, get_or, map, refl, ap, sym, ◌∙◌, subst, arith}
use Rattle.std.proofs.Math.Seq.{map-set_same}
use Rattle.std.proofs.lemmas.List.{append_assoc, append-nil, length-append, length-set, map-append}
use Rattle.std.proofs.lemmas.List.Sums.{sum_by_push}
use Rattle.std.specs.List.{flat_map, sum_by}
use Rattle.gv_types.specs.declared.ranges.Ranges.{Ranges}
use Rattle.gv_balloon.specs.Shares.{next_ranges, given_after, ranges_from}
use Rattle.gv_balloon.specs.declared.given.Given.{Given}
use Rattle.gv_text.specs.Script.{want_of}
use Rattle.gv_text.specs.declared.script_line.Guest.{Guest as GuestForm}
use Rattle.gv_text.specs.declared.script_line.Line.{Line}
use Rattle.gv_text.specs.declared.script_line.Line.TheVariants.{Guest, Blank}
use Rattle.gv_private.specs.Device.{PrivateDevice, new_device}
use Rattle.gv_private.specs.Inputs.{Input}
use Rattle.gv_machine.specs.Course.{Course, onto, play}
use Rattle.gv_machine.specs.Machine.{Machine, Done, Receiver, device, rota, receiver, received, no_ranges, device_at, device_course, input_course, inputs_in, line_course, ranges_in, given_to}
use Rattle.gv_machine.specs.Solo.{guests_of, no_guest}
use Rattle.gv_machine.proofs.Courses.{play-append}
use Rattle.gv_machine.proofs.Devices.{device-same}
use Rattle.gv_machine.proofs.Named.{IsRun, run-begun}

-- ---- inputs add no device, and change no ranges

pub length_received : (m : Machine) (input : Input) (r : Receiver) → length (received m input r).left.devices ≡ length m.devices
length_received m input (device g) = length-set m.devices g (device_course (device_at m.devices g) input).left
length_received m input (rota engine) = refl

pub length-input : (m : Machine) (input : Input) → length (input_course m input).left.devices ≡ length m.devices
length-input m input = length_received m input (receiver m.owners input)

pub length-played : (m : Machine) (inputs : List Input) → length (play input_course m inputs).left.devices ≡ length m.devices
length-played m [] = refl
length-played m (input ∷ inputs) = length-played (input_course m input).left inputs ∙ length-input m input

ranges_received : (m : Machine) (input : Input) (r : Receiver) → ranges_in (received m input r).left.devices ≡ ranges_in m.devices
ranges_received m input (device g) =
    map-set_same (λ (p : PrivateDevice). p.ranges) m.devices g (device_course (device_at m.devices g) input).left (device_at [] 0) (device-same (device_at m.devices g) input).ranges
ranges_received m input (rota engine) = refl

pub ranges-played : (m : Machine) (inputs : List Input) → ranges_in (play input_course m inputs).left.devices ≡ ranges_in m.devices
ranges-played m [] = refl
ranges-played m (input ∷ inputs) = ranges-played (input_course m input).left inputs ∙ ranges_received m input (receiver m.owners input)

-- ---- the devices of guests

-- the devices of guests, of whom the first has the number n and the next ranges
abbrev pub devices_from : ℕ → Given → List GuestForm → List PrivateDevice
devices_from n given [] = []
devices_from n given (g ∷ gs) = new_device n g.frames (next_ranges given (want_of g)) ∷ devices_from (n + 1) (given_after given (want_of g)) gs

pub length-devices_from : (n : ℕ) (given : Given) (gs : List GuestForm) → length (devices_from n given gs) ≡ length gs
length-devices_from n given [] = refl
length-devices_from n given (g ∷ gs) = ap suc (length-devices_from (n + 1) (given_after given (want_of g)) gs)

-- the device of guest number n + j
pub device-from : (n : ℕ) (given : Given) (gs : List GuestForm) (j : ℕ) → j < length gs → device_at (devices_from n given gs) j ≡ new_device (n + j) (get_or gs j no_guest).frames (get_or (ranges_from given (map want_of gs)) j no_ranges)
device-from n given [] j there = absurd (omega arith)
device-from n given (g ∷ gs) zero there =
    let same : n ≡ n + 0 = omega arith in
    ap (λ i. new_device i g.frames (next_ranges given (want_of g))) same
device-from n given (g ∷ gs) (suc j) there =
    let same : n + 1 + j ≡ n + suc j = omega arith in
    device-from (n + 1) (given_after given (want_of g)) gs j (omega arith)
    ∙ ap (λ i. new_device i (get_or gs j no_guest).frames (get_or (ranges_from (given_after given (want_of g)) (map want_of gs)) j no_ranges)) same

-- the devices that lines add to these
abbrev pub devices_added : List PrivateDevice → List Line → List PrivateDevice
devices_added devices lines = devices_from (length devices) (given_to (ranges_in devices)) (guests_of lines)

-- the machine m, and those devices
abbrev pub with_guests : Machine → List Line → Machine
with_guests m lines = record m { devices = m.devices ++ devices_added m.devices lines }

-- where no guest comes
all_there : (m : Machine) (lines : List Line) → guests_of lines ≡ [] → with_guests m lines ≡ m
all_there m lines none =
    ap (λ (gs : List GuestForm). record m { devices = m.devices ++ devices_from (length m.devices) (given_to (ranges_in m.devices)) gs }) none
    ∙ ap (λ (devices : List PrivateDevice). record m { devices = devices }) (append-nil m.devices)

-- a `guest` line adds the first of the devices that it and the lines behind it add
module _ (m : Machine) (g : GuestForm) (lines : List Line) where
  abbrev pub given : Given
  given = given_to (ranges_in m.devices)

  abbrev pub first : PrivateDevice
  first = new_device (length m.devices) g.frames (next_ranges given (want_of g))

  abbrev pub one_added : Machine
  one_added = record m { devices = m.devices ++ first ∷ [] }

  pub one_more : length one_added.devices ≡ length m.devices + 1
  one_more = length-append m.devices (first ∷ [])

  given_more : given_to (ranges_in one_added.devices) ≡ given_after given (want_of g)
  given_more =
      ap given_to (map-append (λ (p : PrivateDevice). p.ranges) m.devices (first ∷ []))
      ∙ ap (λ n. record { low = n; high = sum_by (λ (r : Ranges). r.high.pages) (ranges_in m.devices ++ first.ranges ∷ []) }) (sum_by_push (λ (r : Ranges). r.low.pages) (ranges_in m.devices) first.ranges)
      ∙ ap (λ n. record { low = given.low + g.low; high = n }) (sum_by_push (λ (r : Ranges). r.high.pages) (ranges_in m.devices) first.ranges)

  added_first : with_guests one_added lines ≡ with_guests m (Guest g ∷ lines)
  added_first =
      ap (λ n. record m { devices = one_added.devices ++ devices_from n (given_to (ranges_in one_added.devices)) (guests_of lines) }) one_more
      ∙ ap (λ given. record m { devices = one_added.devices ++ devices_from (length m.devices + 1) given (guests_of lines) }) given_more
      ∙ ap (λ (devices : List PrivateDevice). record m { devices = devices }) (append_assoc m.devices (first ∷ []) (devices_from (length m.devices + 1) (given_after given (want_of g)) (guests_of lines)))

-- ---- all lines

-- the inputs of lines, over the devices of all their guests
abbrev pub all_course : Machine → List Line → Course Machine Done
all_course m lines = play input_course (with_guests m lines) (flat_map inputs_in lines)

-- behind an event no guest comes, so an event's line is its inputs
module _ (m : Machine) (inputs : List Input) (lines : List Line) (run : IsRun true (length m.devices) lines) where
  abbrev after : Machine
  after = (play input_course m inputs).left

  abbrev rest : List Input
  rest = flat_map inputs_in lines

  run_after : IsRun true (length after.devices) lines
  run_after = subst (λ n. IsRun true n lines) (sym (length-played m inputs)) run

  inputs_joined : play line_course after lines ≡ all_course after lines → onto (play input_course m inputs) (play line_course after lines) ≡ play input_course (with_guests m lines) (inputs ++ rest)
  inputs_joined more =
      let none = run-begun (length m.devices) lines run in
      ap (onto (play input_course m inputs)) (more ∙ ap (λ (k : Machine). play input_course k rest) (all_there after lines none))
      ∙ sym (play-append input_course m inputs rest)
      ∙ sym (ap (λ (k : Machine). play input_course k (inputs ++ rest)) (all_there m lines none))

-- A script's lines are its inputs, over the devices of all its guests.
pub lines-joined : (begun : Bool) (m : Machine) (lines : List Line) → IsRun begun (length m.devices) lines → play line_course m lines ≡ all_course m lines
lines-joined begun m [] run = sym (λ i. record { left = record m { devices = append-nil m.devices i }; came = [] })
lines-joined begun m (Guest g ∷ lines) run =
    lines-joined begun (one_added m g lines) lines (subst (λ n. IsRun begun n lines) (sym (one_more m g lines)) run.1)
    ∙ ap (λ (k : Machine). play input_course k (flat_map inputs_in lines)) (added_first m g lines)
lines-joined begun m (Blank ∷ lines) run = lines-joined begun m lines run.1
lines-joined begun m (line ∷ lines) run =
    inputs_joined m (inputs_in line) lines run.1 (lines-joined true (after m (inputs_in line) lines run.1) lines (run_after m (inputs_in line) lines run.1))
