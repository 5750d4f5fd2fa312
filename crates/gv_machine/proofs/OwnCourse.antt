-- What comes of one guest's inputs, by its own device; and what is told of all.
use Rattle.std.proofs.Common.{◌≡◌, ◌≢◌, ℕ, ◌-◌, ◌<◌, ◌≤◌, Bool, true, false, Option, None, Some, List, [], ◌∷◌, ◌++◌, cond, eqb, length, set, refl, ap, sym, ◌∙◌, subst, ⊎_elim, ◌⊎◌, inl, inr}
use Rattle.std.proofs.lemmas.Bool.{eqb-true, eq-eqb, cases_eq}
use Rattle.std.proofs.lemmas.List.{map-append, get_or-set_same, get_or-set_other}
use Rattle.std.proofs.lemmas.List.Elements.{filter-append}
use Rattle.std.specs.List.{AllByRecursion}
use Rattle.gv_types.specs.declared.event.Event.{Event}
use Rattle.gv_types.specs.declared.event.Event.TheVariants as events
use Rattle.gv_types.specs.declared.ids.EngineId.{EngineId}
use Rattle.gv_private.specs.Device.{PrivateDevice, new_device}
use Rattle.gv_private.specs.Inputs.{Input, event, turns, events_in}
use Rattle.gv_machine.specs.Course.{Course, onto, play}
use Rattle.gv_machine.specs.Machine.{Machine, Done, Receiver, device, rota, event_receiver, receiver, received, no_ranges, device_at, event_course, device_course, guest_course, switch_done, owner_after, input_course}
use Rattle.gv_machine.specs.Solo.{is_taken_by, own_done, inputs_done}
use Rattle.gv_machine.proofs.Courses.{play-append}
use Rattle.gv_machine.proofs.Devices.{NamesGuest, is_of_switch, no-switch, device-same, device-names}
use Rattle.gv_machine.proofs.Joined.{length-input}
use Rattle.gv_machine.proofs.Named.{IsEventBelow, IsInputBelow, AreBelow}
use Rattle.gv_machine.proofs.Rotas.{OwnersAreThere, owner-there, owners-there, next-there}

-- ---- what always holds of a machine

-- each device has its guest's number
abbrev pub AreNumbered : List PrivateDevice → Type 0
AreNumbered devices = (g : ℕ) → g < length devices → (device_at devices g).number ≡ g

pub record IsWhole (m : Machine) : Type 0 where
  pub numbers : AreNumbered m.devices
  pub owners : OwnersAreThere m

-- an input's guest, or its engine, is there
abbrev pub ReceivedBelow : ℕ → Receiver → Type 0
ReceivedBelow n (device g) = g < n
ReceivedBelow n (rota engine) = (0 < n) × (engine.0 < 4)

event_goes : (m : Machine) (one : Event) → OwnersAreThere m → IsEventBelow (length m.devices) one → ReceivedBelow (length m.devices) (event_receiver m.owners one)
event_goes m (events.Turn engine) owners is = owner-there m owners is.0 engine.0
event_goes m (events.Switch engine) owners is = is
event_goes m one owners is = is

pub input-goes : (m : Machine) (input : Input) → OwnersAreThere m → IsInputBelow (length m.devices) input → ReceivedBelow (length m.devices) (receiver m.owners input)
input-goes m (event one) owners is = event_goes m one owners is
input-goes m (turns engine count) owners is = owner-there m owners is.0 engine.0

-- the devices with another one in place of guest k's
module _ (devices : List PrivateDevice) (k : ℕ) (p : PrivateDevice) (there : k < length devices) where
  pub set_own : device_at (set devices k p) k ≡ p
  set_own = get_or-set_same devices k p (new_device 0 0 no_ranges) there

  set_other : (g : ℕ) → g ≢ k → device_at (set devices k p) g ≡ device_at devices g
  set_other g differ = get_or-set_other devices k g p (new_device 0 0 no_ranges) differ

  number_by : (g : ℕ) → p.number ≡ (device_at devices k).number → (g ≡ k) ⊎ (g ≢ k) → (device_at (set devices k p) g).number ≡ (device_at devices g).number
  number_by g same (inl is) =
      ap (λ i. (device_at (set devices k p) i).number) is
      ∙ ap (λ (q : PrivateDevice). q.number) set_own
      ∙ same
      ∙ sym (ap (λ i. (device_at devices i).number) is)
  number_by g same (inr differ) = ap (λ (q : PrivateDevice). q.number) (set_other g differ)

  number_after : (g : ℕ) → p.number ≡ (device_at devices k).number → (device_at (set devices k p) g).number ≡ (device_at devices g).number
  number_after g same = number_by g same (cases_eq g k)

numbered_received : (m : Machine) (input : Input) (r : Receiver) → ReceivedBelow (length m.devices) r → AreNumbered m.devices → (g : ℕ) → g < length m.devices → (device_at (received m input r).left.devices g).number ≡ g
numbered_received m input (device k) there numbers g h =
    let mine = device_at m.devices k in
    number_after m.devices k (device_course mine input).left there g (device-same mine input).number ∙ numbers g h
numbered_received m input (rota engine) there numbers g h = numbers g h

owned_received : (m : Machine) (input : Input) (r : Receiver) → ReceivedBelow (length m.devices) r → length (received m input r).left.devices ≡ length m.devices → OwnersAreThere m → OwnersAreThere (received m input r).left
owned_received m input (device k) there same owners engine = subst (λ n. m.owners engine ≤ n - 1) (sym same) (owners engine)
owned_received m input (rota engine) there same owners k = owners-there m owners there.0 engine k

module _ (m : Machine) (input : Input) (whole : IsWhole m) (below : IsInputBelow (length m.devices) input) where
  pub goes : ReceivedBelow (length m.devices) (receiver m.owners input)
  goes = input-goes m input whole.owners below

  pub whole-input : IsWhole (input_course m input).left
  whole-input = record {
    numbers = λ g h. numbered_received m input (receiver m.owners input) goes whole.numbers g (subst (λ n. g < n) (length-input m input) h);
    owners = owned_received m input (receiver m.owners input) goes (length-input m input) whole.owners;
  }

  pub below-input : (inputs : List Input) → AreBelow (length m.devices) inputs → AreBelow (length (input_course m input).left.devices) inputs
  below-input inputs below = subst (λ n. AreBelow n inputs) (sym (length-input m input)) below

pub whole-played : (m : Machine) (inputs : List Input) → IsWhole m → AreBelow (length m.devices) inputs → IsWhole (play input_course m inputs).left
whole-played m [] whole below = whole
whole-played m (input ∷ inputs) whole below = whole-played (input_course m input).left inputs (whole-input m input whole below.0) (below-input m input whole below.0 inputs below.1)

-- ---- what is told

-- what came of an input of guest g's device, one of the first n: it is no switch, and the replies name the guest
pub record IsToldTo (n g : ℕ) (d : Done) : Type 0 where
  pub there : g < n
  pub below : IsInputBelow n d.input
  pub taken : is_of_switch d.input ≡ false
  pub names : AllByRecursion (NamesGuest g) d.events

-- what came of a switch is told to a new owner that is there
abbrev pub IsToldBy : ℕ → Done → Option ℕ → Type 0
IsToldBy n d (Some g) = IsToldTo n g d
IsToldBy n d None = (engine : EngineId) × (owner : ℕ) × (engine.0 < 4) × (owner < n) × (d ≡ switch_done engine owner)

abbrev pub IsTold : ℕ → Done → Type 0
IsTold n d = IsToldBy n d d.whose

module _ (m : Machine) (input : Input) (whole : IsWhole m) (below : IsInputBelow (length m.devices) input) where
  told_received : (r : Receiver) → receiver m.owners input ≡ r → ReceivedBelow (length m.devices) r → AllByRecursion (IsTold (length m.devices)) (received m input r).came
  told_received (device k) is there =
      let number = whole.numbers k there in (
        record {
          there = subst (λ i. i < length m.devices) (sym number) there;
          below = below;
          taken = no-switch m.owners k input is;
          names = subst (λ i. AllByRecursion (NamesGuest i) (play event_course (device_at m.devices k) (events_in input)).came) (sym number)
              (device-names m.owners k (device_at m.devices k) input number is);
        },
        tt,
      )
  told_received (rota engine) is there = ((engine, owner_after m engine.0, there.1, next-there m whole.owners there.0 engine.0, refl), tt)

  told_input : AllByRecursion (IsTold (length m.devices)) (input_course m input).came
  told_input = told_received (receiver m.owners input) refl (goes m input whole below)

all_append : (P : Done → Type 0) (xs ys : List Done) → AllByRecursion P xs → AllByRecursion P ys → AllByRecursion P (xs ++ ys)
all_append P [] ys first second = second
all_append P (x ∷ xs) ys first second = (first.0, all_append P xs ys first.1 second)

-- All that came is told to the guests that the inputs went to.
pub all-told : (m : Machine) (inputs : List Input) → IsWhole m → AreBelow (length m.devices) inputs → AllByRecursion (IsTold (length m.devices)) (play input_course m inputs).came
all-told m [] whole below = tt
all-told m (input ∷ inputs) whole below =
    let next = (input_course m input).left in
    all_append (IsTold (length m.devices)) (input_course m input).came (play input_course next inputs).came
    (told_input m input whole below.0)
    (subst (λ n. AllByRecursion (IsTold n) (play input_course next inputs).came) (length-input m input)
    (all-told next inputs (whole-input m input whole below.0) (below-input m input whole below.0 inputs below.1)))

-- ---- one guest's own course

module _ (g : ℕ) where
  -- of what came, what went to the guest, and the guest's device in the end
  abbrev pub seen : Course Machine Done → Course PrivateDevice Done
  seen c = record { left = device_at c.left.devices g; came = own_done g c.came }

  abbrev pub inputs_seen : Course Machine Done → List Input
  inputs_seen c = inputs_done (own_done g c.came)

  -- The guest sees what its own device p makes of its own inputs.
  pub record IsAlone (p : PrivateDevice) (c : Course Machine Done) : Type 0 where
    pub own : seen c ≡ play device_course p (inputs_seen c)

  module _ (p : PrivateDevice) (a b : Course Machine Done) (first : IsAlone p a) (second : IsAlone (device_at a.left.devices g) b) where
    own_both : own_done g (a.came ++ b.came) ≡ own_done g a.came ++ own_done g b.came
    own_both = filter-append (λ (d : Done). is_taken_by g d.whose) a.came b.came

    inputs_both : inputs_seen (onto a b) ≡ inputs_seen a ++ inputs_seen b
    inputs_both = ap inputs_done own_both ∙ map-append (λ (d : Done). d.input) (own_done g a.came) (own_done g b.came)

    goes_on : play device_course (device_at a.left.devices g) (inputs_seen b) ≡ play device_course (play device_course p (inputs_seen a)).left (inputs_seen b)
    goes_on = ap (λ (c : Course PrivateDevice Done). play device_course c.left (inputs_seen b)) first.own

    alone-onto : IsAlone p (onto a b)
    alone-onto = record {
      own = ap (λ (came : List Done). record { left = device_at b.left.devices g; came = came }) own_both
          ∙ ap (λ (c : Course PrivateDevice Done). onto c (seen b)) first.own
          ∙ ap (onto (play device_course p (inputs_seen a))) (second.own ∙ goes_on)
          ∙ sym (play-append device_course p (inputs_seen a) (inputs_seen b))
          ∙ ap (play device_course p) (sym inputs_both);
    }

  -- an input of the guest's own
  module _ (m : Machine) (input : Input) (there : g < length m.devices) (number : (device_at m.devices g).number ≡ g) where
    abbrev mine : PrivateDevice
    mine = device_at m.devices g

    abbrev done : Done
    done = record { whose = Some mine.number; input = input; events = (play event_course mine (events_in input)).came }

    abbrev Own : Bool → Type 0
    Own b = record { left = device_at (set m.devices g (device_course mine input).left) g; came = cond b (done ∷ []) [] } ≡ play device_course mine (inputs_done (cond b (done ∷ []) []))

    own_input : IsAlone mine (guest_course m g input)
    own_input = record {
      own = subst Own (sym (eq-eqb mine.number g number)) (ap (λ (p : PrivateDevice). record { left = p; came = done ∷ [] }) (set_own m.devices g (device_course mine input).left there));
    }

  -- another guest's input
  module _ (m : Machine) (input : Input) (k : ℕ) (there : k < length m.devices) (number : (device_at m.devices k).number ≡ k) (differ : g ≢ k) where
    abbrev other : PrivateDevice
    other = device_at m.devices k

    abbrev other_done : Done
    other_done = record { whose = Some other.number; input = input; events = (play event_course other (events_in input)).came }

    abbrev Other : Bool → Type 0
    Other b = record { left = device_at (set m.devices k (device_course other input).left) g; came = cond b (other_done ∷ []) [] } ≡ play device_course (device_at m.devices g) (inputs_done (cond b (other_done ∷ []) []))

    not_own : (b : Bool) → eqb other.number g ≡ b → eqb other.number g ≡ false
    not_own true is = absurd (differ (sym (eqb-true other.number g is) ∙ number))
    not_own false is = is

    other_input : IsAlone (device_at m.devices g) (guest_course m k input)
    other_input = record {
      own = subst Other (sym (not_own (eqb other.number g) refl)) (ap (λ (p : PrivateDevice). record { left = p; came = [] }) (set_other m.devices k (device_course other input).left there g differ));
    }

  alone_received : (m : Machine) (input : Input) (r : Receiver) → AreNumbered m.devices → ReceivedBelow (length m.devices) r → IsAlone (device_at m.devices g) (received m input r)
  alone_received m input (device k) numbers there =
      ⊎_elim
      (λ is. subst (λ i. IsAlone (device_at m.devices g) (guest_course m i input)) is (own_input m input (subst (λ i. i < length m.devices) (sym is) there) (numbers g (subst (λ i. i < length m.devices) (sym is) there))))
      (λ differ. other_input m input k there (numbers k there) differ)
      (cases_eq g k)
  alone_received m input (rota engine) numbers there = record { own = refl }

  -- What comes of a guest's inputs is what its own device makes of them.
  pub own-course : (m : Machine) (inputs : List Input) → IsWhole m → AreBelow (length m.devices) inputs → IsAlone (device_at m.devices g) (play input_course m inputs)
  own-course m [] whole below = record { own = refl }
  own-course m (input ∷ inputs) whole below =
      alone-onto (device_at m.devices g) (input_course m input) (play input_course (input_course m input).left inputs)
      (alone_received m input (receiver m.owners input) whole.numbers (goes m input whole below.0))
      (own-course (input_course m input).left inputs (whole-input m input whole below.0) (below-input m input whole below.0 inputs below.1))
