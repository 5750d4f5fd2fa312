-- The guests that are known: gathered at first, and then with their devices.
use Rattle.std.proofs.Common.{◌≡◌, ◌≢◌, ℕ, ◌+◌, ◌<◌, ◌≤◌, true, false, ◌&&◌, eqb, List, [], ◌∷◌, ◌++◌, length, get_or, refl, ap, sym, ◌∙◌, subst, arith, ⊎_elim, Vec, Global, sum}
use Rattle.std.specs.List.{sum_by}
use Rattle.std.specs.Prelude.{nat_le, slice_index}
use Rattle.std.proofs.lemmas.Bool.{eqb-true, cases_eq, le-leb}
use Rattle.std.proofs.lemmas.Bool.Decides.{nat_tests}
use Rattle.std.proofs.lemmas.Grind.{common_steps}
use Rattle.std.proofs.lemmas.List.{get_or-set_same, get_or-set_other, length-set, length-replicate}
use Rattle.std.proofs.lemmas.List.Elements.{All-push}
use Rattle.std.proofs.lemmas.List.Sums.{sum_by-append, sum-map}
use Rattle.std.proofs.lemmas.Simd.{map-map}
use Rattle.gv_types.specs.declared.ranges.Want.{Want}
use Rattle.gv_balloon.specs.Shares.{next_ranges}
use Rattle.gv_gpu.specs.Device.{Device, IsEmpty}
use Rattle.gv_private.specs.Device.{PrivateDevice, new_device}
use Rattle.gv_private.specs.Inputs.{Input}
use Rattle.gv_machine.specs.Course.{play}
use Rattle.gv_machine.specs.Laws.{SameGuests}
use Rattle.gv_machine.specs.Machine.{Machine, new_machine, no_ranges, device_at, input_course, line_course, given_to, ranges_in}
use Rattle.gv_machine.proofs.Guests.{guests_stay}
use Rattle.gv_mediator.specs.First.{MayBegin, joined, all_joined, first_machine, wants_of}
use Rattle.gv_mediator.specs.Laws.{DevicesHaveMemories, HasMemories}
use Rattle.gv_mediator.specs.Tied.{Tied, machine_of}
use Rattle.gv_mediator.specs.declared.guest.Guest.{Guest}
use Rattle.gv_mediator.specs.declared.mediator.Mediator.{Mediator}
use Rattle.gv_text.specs.Script.{nothing_known, has_room, known_after, want_of}
use Rattle.gv_text.specs.declared.known.Known.{Known}
use Rattle.gv_text.specs.declared.script_line.Guest.{Guest as GuestForm}
use Rattle.gv_text.specs.declared.script_line.Line.TheVariants.{Guest as GuestLine}
use Rattle.gv_run.specs.Tied.{IsWhole, Stands, AreGathered, HasKnown, IsMade, Agrees, Joins, is_first, is_running, low_pages, high_pages, machine_in}
use Rattle.gv_run.specs.declared.stage.Stage.{Stage}
use Rattle.gv_run.specs.declared.stage.Stage.TheVariants.{Gathering, Running}

-- ---- before the first guest

none-there : (guests : List Guest) → eqb (length guests) 0 ≡ true → guests ≡ []
none-there [] is = refl
none-there (guest ∷ guests) is =
    let none : length (guest ∷ guests) ≡ 0 = eqb-true (length (guest ∷ guests)) 0 is in
    absurd (omega arith)

pub first-machine : (d : Device) (stage : Stage) → is_first stage ≡ true → machine_in d stage ≡ new_machine
first-machine d (Gathering guests) is = ap first_machine (none-there guests.items is)
first-machine d (Running m) is = absurd (cc)

gathered-none : (d : Device) → IsEmpty d → AreGathered d nothing_known []
gathered-none d empty = record {
  empty = empty;
  early = refl;
  some = λ k e h. absurd (omega arith);
  frames = refl;
  low = refl;
  high = refl;
  count = refl;
  few = omega arith;
  low_fits = omega arith;
  high_fits = omega arith;
}

known-none : HasKnown new_machine nothing_known
known-none = record {
  whole = record { numbers = λ g h. absurd (omega arith); owners = λ engine. omega arith };
  count = refl;
  sizes = λ g h. absurd (omega arith);
  room = refl;
  eight = omega arith;
}

agrees-none : (d : Device) (stage : Stage) → IsEmpty d → is_first stage ≡ true → Agrees d nothing_known stage
agrees-none d (Gathering guests) empty first = record {
  there = subst (AreGathered d nothing_known) (sym (none-there guests.items first)) (gathered-none d empty);
  guests = subst (λ (m : Machine). HasKnown m nothing_known) (sym (ap first_machine (none-there guests.items first))) known-none;
}
agrees-none d (Running m) empty first = absurd (cc)

pub agrees-first : (d : Device) (known : Known) (stage : Stage) → IsEmpty d → known ≡ nothing_known → is_first stage ≡ true → Agrees d known stage
agrees-first d known stage empty is first = subst (λ (k : Known). Agrees d k stage) (sym is) (agrees-none d stage empty first)

-- ---- one more guest

pub all-joined : (m : Machine) (guests : List Guest) (guest : Guest) → all_joined m (guests ++ guest ∷ []) ≡ joined (all_joined m guests) guest
all-joined m [] guest = refl
all-joined m (first ∷ guests) guest = all-joined (joined m first) guests guest

module _ {X : Type 0} (xs : List X) (x : X) where
  at-front : (k : ℕ) (d : X) → k < length xs → get_or (xs ++ x ∷ []) k d ≡ get_or xs k d
  at-front k d h = grind (arith, common_steps)

  at-end : (d : X) → get_or (xs ++ x ∷ []) (length xs) d ≡ x
  at-end d = grind (arith, common_steps)

  longer : length (xs ++ x ∷ []) ≡ length xs + 1
  longer = grind (arith, common_steps)

-- a machine with one more device
module _ (m : Machine) (known : Known) (has : HasKnown m known) (guest : GuestForm) (below : known.guests < 8) where
  abbrev new : PrivateDevice
  new = new_device (length m.devices) guest.frames (next_ranges (given_to (ranges_in m.devices)) (want_of guest))

  abbrev more : Machine
  more = record m { devices = m.devices ++ new ∷ [] }

  abbrev next : Known
  next = known_after known (GuestLine guest)

  number-more : (g : ℕ) → g < length more.devices → (device_at more.devices g).number ≡ g
  number-more g h =
      let long = longer m.devices new in
      ⊎_elim
      (λ (is : g ≡ length m.devices). ap (λ k. (device_at more.devices k).number) is ∙ ap (λ (p : PrivateDevice). p.number) (at-end m.devices new (new_device 0 0 no_ranges)) ∙ sym is)
      (λ (differ : g ≢ length m.devices).
      let old : g < length m.devices = omega arith in
      ap (λ (p : PrivateDevice). p.number) (at-front m.devices new g (new_device 0 0 no_ranges) old) ∙ has.whole.numbers g old)
      (cases_eq g (length m.devices))

  size-more : (g : ℕ) → g < next.guests → length (device_at more.devices g).memory ≡ slice_index next.sizes g
  size-more g h =
      let room = has.room in
      ⊎_elim
      (λ (is : g ≡ known.guests).
      let last : g ≡ length m.devices = is ∙ sym has.count in
      ap (λ k. length (device_at more.devices k).memory) last
      ∙ ap (λ (p : PrivateDevice). length p.memory) (at-end m.devices new (new_device 0 0 no_ranges))
      ∙ length-replicate guest.frames _
      ∙ sym (ap (λ k. slice_index next.sizes k) is ∙ get_or-set_same known.sizes known.guests guest.frames 0 (omega arith)))
      (λ (differ : g ≢ known.guests).
      let old : g < known.guests = omega arith in
      let count = has.count in
      let there : g < length m.devices = omega arith in
      ap (λ (p : PrivateDevice). length p.memory) (at-front m.devices new g (new_device 0 0 no_ranges) there)
      ∙ has.sizes g old
      ∙ sym (get_or-set_other known.sizes known.guests g guest.frames 0 differ))
      (cases_eq g known.guests)

  pub known-more : HasKnown more next
  known-more =
      let long = longer m.devices new in
      let count = has.count in
      record {
        whole = record { numbers = number-more; owners = λ engine. let owner = has.whole.owners engine in omega arith };
        count = omega arith;
        sizes = size-more;
        room = length-set known.sizes known.guests guest.frames ∙ has.room;
        eight = omega arith;
      }

-- the guest, as it is gathered
abbrev pub gathered_guest : GuestForm → Guest
gathered_guest guest = record { frames = guest.frames; want = want_of guest }

module _ (d : Device) (known : Known) (guests : List Guest) (gathered : AreGathered d known guests) (guest : GuestForm) (room : has_room known guest ≡ true) (some : 0 < guest.frames) where
  sum-more : (f : Guest → ℕ) → sum_by f (guests ++ gathered_guest guest ∷ []) ≡ sum_by f guests + f (gathered_guest guest)
  sum-more f = grind (arith, common_steps, sum_by-append)

  pub gathered-more : AreGathered d (known_after known (GuestLine guest)) (guests ++ gathered_guest guest ∷ [])
  gathered-more =
      let count = gathered.count in
      let frames = gathered.frames in
      let low = gathered.low in
      let high = gathered.high in
      let long = longer guests (gathered_guest guest) in
      let all_frames = sum-more (λ (guest : Guest). guest.frames) in
      let all_low = sum-more (λ (guest : Guest). guest.want.low) in
      let all_high = sum-more (λ (guest : Guest). guest.want.high) in
      let some_frame : 1 ≤ guest.frames = omega arith in
      record {
        empty = gathered.empty;
        early = gathered.early;
        some = All-push (λ (guest : Guest). 1 ≤ guest.frames) guests (gathered_guest guest) gathered.some some_frame;
        frames = omega arith;
        low = omega arith;
        high = omega arith;
        count = omega arith;
        few = grind (arith, nat_tests);
        low_fits = grind (arith, nat_tests);
        high_fits = grind (arith, nat_tests);
      }

room-below : (known : Known) (guest : GuestForm) → has_room known guest ≡ true → known.guests < 8
room-below known guest room = grind (arith, nat_tests)

machine-more : (guests now : List Guest) (guest : GuestForm) → now ≡ guests ++ gathered_guest guest ∷ [] → first_machine now ≡ (line_course (first_machine guests) (GuestLine guest)).left
machine-more guests now guest is = ap first_machine is ∙ all-joined new_machine guests (gathered_guest guest)

-- a `guest` line
module _ (d : Device) (known : Known) (guest : GuestForm) (room : has_room known guest ≡ true) (some : 0 < guest.frames) where
  pub line-machine : (old new : Stage) → is_running old ≡ false → Joins old guest new → machine_in d new ≡ (line_course (machine_in d old) (GuestLine guest)).left
  line-machine (Gathering guests) (Gathering more) early joins = machine-more guests.items more.items guest joins
  line-machine (Gathering guests) (Running m) early joins = absurd joins
  line-machine (Running m) new early joins = absurd (cc)

  pub line-agrees : (old new : Stage) → is_running old ≡ false → Agrees d known old → Joins old guest new → Agrees d (known_after known (GuestLine guest)) new
  line-agrees (Gathering guests) (Gathering more) early agrees joins = record {
    there = subst (AreGathered d (known_after known (GuestLine guest))) (sym joins) (gathered-more d known guests.items agrees.there guest room some);
    guests = subst (λ (m : Machine). HasKnown m (known_after known (GuestLine guest))) (sym (machine-more guests.items more.items guest joins))
        (known-more (first_machine guests.items) known agrees.guests guest (room-below known guest room));
  }
  line-agrees (Gathering guests) (Running m) early agrees joins = absurd joins
  line-agrees (Running m) new early agrees joins = absurd (cc)

-- no event came yet, where a guest is accepted
pub early-stage : (d : Device) (known : Known) (stage : Stage) → Agrees d known stage → known.begun ≡ false → is_running stage ≡ false
early-stage d known (Gathering guests) agrees early = refl
early-stage d known (Running m) agrees early =
    let begun = agrees.there.begun in
    absurd (cc)

-- ---- the devices are made

sum-wants : (f : Want → ℕ) (guests : List Guest) → sum_by f (wants_of guests) ≡ sum_by (λ (guest : Guest). f guest.want) guests
sum-wants f guests =
    sym (sum-map f (wants_of guests))
    ∙ ap sum (map-map f (λ (guest : Guest). guest.want) guests)
    ∙ sum-map (λ (guest : Guest). f guest.want) guests

low-wants : (guests : List Guest) → sum_by (λ (want : Want). want.low) (wants_of guests) ≡ low_pages guests
low-wants guests = sum-wants (λ (want : Want). want.low) guests

high-wants : (guests : List Guest) → sum_by (λ (want : Want). want.high) (wants_of guests) ≡ high_pages guests
high-wants guests = sum-wants (λ (want : Want). want.high) guests

both-fit : (a b m n : ℕ) → a ≤ m → b ≤ n → (nat_le a m && nat_le b n) ≡ true
both-fit a b m n h k = ap (λ x. x && nat_le b n) (le-leb a m h) ∙ le-leb b n k

pub may-begin : (d : Device) (known : Known) (guests : List Guest) → AreGathered d known guests → 0 < known.guests → known.guests ≤ 8 → MayBegin guests
may-begin d known guests gathered some eight =
    let count = gathered.count in
    let frames = gathered.frames in
    let few = gathered.few in
    let low = low-wants guests ∙ gathered.low in
    let high = high-wants guests ∙ gathered.high in
    let low_fits = gathered.low_fits in
    let high_fits = gathered.high_fits in
    record {
      some = omega arith;
      eight = omega arith;
      frames = gathered.some;
      few = omega arith;
      fit = both-fit (sum_by (λ (want : Want). want.low) (wants_of guests)) (sum_by (λ (want : Want). want.high) (wants_of guests)) 65536 966656 (omega arith) (omega arith);
    }

-- what is known of guests doesn't depend on whether an event came
pub known-begun : (m : Machine) (known : Known) → HasKnown m known → HasKnown m (record known { begun = true })
known-begun m known has = record { whole = has.whole; count = has.count; sizes = has.sizes; room = has.room; eight = has.eight }

pub agrees-made : (e : Device) (known : Known) (m : Mediator) (first : Machine) → HasKnown first known → machine_of e m ≡ first → Tied e m → m.stopped ≡ false → e.faults ≡ 0
    → Agrees e (record known { begun = true }) (Running m)
agrees-made e known m first has is tied running quiet = record {
  there = record { tied = tied; running = running; quiet = quiet; begun = refl };
  guests = subst (λ (k : Machine). HasKnown k (record known { begun = true })) (sym is) (known-begun first known has);
}

pub agrees-still : (d : Device) (known : Known) (stage : Stage) → is_running stage ≡ true → Agrees d known stage → Agrees d (record known { begun = true }) stage
agrees-still d known (Gathering guests) is agrees = absurd (cc)
agrees-still d known (Running m) is agrees = agrees-made d known m (machine_of d m) agrees.guests refl agrees.there.tied agrees.there.running agrees.there.quiet

pub made-of : (d : Device) (known : Known) (stage : Stage) → Agrees d known stage → is_running stage ≡ true → IsMade d stage
made-of d known (Gathering guests) agrees is = absurd (cc)
made-of d known (Running m) agrees is =
    let count = agrees.guests.count in
    let eight = agrees.guests.eight in
    record { tied = agrees.there.tied; running = agrees.there.running; quiet = agrees.there.quiet; whole = agrees.guests.whole; eight = omega arith }

pub has-memories : (d : Device) (stage : Stage) → DevicesHaveMemories → IsMade d stage → HasMemories d (machine_in d stage)
has-memories d (Gathering guests) law made = absurd made
has-memories d (Running m) law made = law d m made.tied

-- no fault was counted, whether the devices were made or not
pub quiet-of : (d : Device) (known : Known) (stage : Stage) → Agrees d known stage → d.faults ≡ 0
quiet-of d known (Gathering guests) agrees = ap (λ (x : Device). x.faults) agrees.there.empty
quiet-of d known (Running m) agrees = agrees.there.quiet

-- ---- events leave the guests that are known

pub known-played : (m : Machine) (known : Known) (inputs : List Input) → HasKnown m known → IsWhole (play input_course m inputs).left → HasKnown (play input_course m inputs).left known
known-played m known inputs has whole =
    let same : SameGuests m (play input_course m inputs).left = guests_stay m inputs in
    let count = has.count in
    record {
      whole = whole;
      count = same.count ∙ has.count;
      sizes = λ g h.
          let there : g < length m.devices = omega arith in
          (same.each g there).frames ∙ has.sizes g h;
      room = has.room;
      eight = has.eight;
    }

pub agrees-played : (e : Device) (known : Known) (m : Machine) (after : Mediator) (inputs : List Input) → HasKnown m known → Stands e after → machine_of e after ≡ (play input_course m inputs).left → Agrees e (record known { begun = true }) (Running after)
agrees-played e known m after inputs has stands is =
    agrees-made e known after (play input_course m inputs).left (known-played m known inputs has (subst IsWhole is stands.whole)) is stands.tied stands.running stands.quiet

-- ---- by what a match says of a stage

pub gathered-of : {d : Device} {known : Known} {stage : Stage} (agrees : Agrees d known stage) (guests : Vec Guest Global) → stage ≡ Gathering guests → AreGathered d known guests.items
gathered-of {d} {known} {stage} agrees guests is = (subst (λ (s : Stage). Agrees d known s) is agrees).there

pub known-of : {d : Device} {known : Known} {stage : Stage} (agrees : Agrees d known stage) (guests : Vec Guest Global) → stage ≡ Gathering guests → HasKnown (first_machine guests.items) known
known-of {d} {known} {stage} agrees guests is = (subst (λ (s : Stage). Agrees d known s) is agrees).guests

pub running-of : (stage : Stage) → ((guests : Vec Guest Global) → stage ≡ Gathering guests → ⊥) → is_running stage ≡ true
running-of (Gathering guests) not = absurd (not guests refl)
running-of (Running m) not = refl
