-- What one device's course keeps, whom its replies name, and what it tells.
use Rattle.std.proofs.Common.{◌≡◌, ℕ, zero, suc, Bool, true, false, List, [], ◌∷◌, ◌++◌, replicate, refl, ap, ◌∙◌}
use Rattle.std.specs.List.{AllByRecursion}
use Rattle.gv_types.specs.declared.event.Event.{Event}
use Rattle.gv_types.specs.declared.event.Event.TheVariants.{Turn, Switch}
use Rattle.gv_types.specs.declared.ids.EngineId.{EngineId}
use Rattle.gv_private.specs.Device.{PrivateDevice}
use Rattle.gv_private.specs.Inputs.{Input, event, turns, Told, answer, events_in}
use Rattle.gv_private.specs.Laws.{SameGuest}
use Rattle.gv_private.proofs.Stays.{guest_stays}
use Rattle.gv_machine.specs.Course.{play}
use Rattle.gv_machine.specs.Laws.{CoursesAreTold}
use Rattle.gv_machine.specs.Machine.{Happened, device, receiver, event_course, device_course}

-- it stays the same guest's, with as many frames and the same ranges
pub same-trans : {p q r : PrivateDevice} → SameGuest p q → SameGuest q r → SameGuest p r
same-trans {p} {q} {r} first second = record { number = second.number ∙ first.number; frames = second.frames ∙ first.frames; ranges = second.ranges ∙ first.ranges }

pub events-same : (p : PrivateDevice) (events : List Event) → SameGuest p (play event_course p events).left
events-same p [] = record { number = refl; frames = refl; ranges = refl }
events-same p (one ∷ events) = same-trans (guest_stays p one) (events-same (answer p one).left events)

pub device-same : (p : PrivateDevice) (input : Input) → SameGuest p (device_course p input).left
device-same p input = events-same p (events_in input)

-- ---- whom the replies name

abbrev pub NamesGuest : ℕ → Happened → Type 0
NamesGuest g h = h.reply.guest.0 ≡ g

-- an input that goes to guest g
abbrev pub GoesTo : (ℕ → ℕ) → ℕ → Input → Type 0
GoesTo owners g input = receiver owners input ≡ device g

-- the switch of an engine
abbrev pub is_switch : Event → Bool
is_switch (Switch engine) = true
is_switch other = false

abbrev pub is_of_switch : Input → Bool
is_of_switch (event one) = is_switch one
is_of_switch (turns engine count) = false

module _ (owners : ℕ → ℕ) (g : ℕ) where
  no_switch : (one : Event) → GoesTo owners g (event one) → is_switch one ≡ false
  no_switch (Switch engine) is = absurd (cc)
  no_switch one is = refl

  -- no device takes one
  pub no-switch : (input : Input) → GoesTo owners g input → is_of_switch input ≡ false
  no-switch (event one) is = no_switch one is
  no-switch (turns engine count) is = refl

  answer_names : (p : PrivateDevice) (one : Event) → p.number ≡ g → GoesTo owners g (event one) → (answer p one).reply.guest.0 ≡ g
  answer_names p (Turn engine) number is = number
  answer_names p (Switch engine) number is = absurd (cc)
  answer_names p one number is = cc

  turns_name : (engine : EngineId) (count : ℕ) (p : PrivateDevice) → p.number ≡ g → AllByRecursion (NamesGuest g) (play event_course p (replicate count (Turn engine))).came
  turns_name engine zero p number = tt
  turns_name engine (suc count) p number = (number, turns_name engine count (answer p (Turn engine)).left ((guest_stays p (Turn engine)).number ∙ number))

  pub device-names : (p : PrivateDevice) (input : Input) → p.number ≡ g → GoesTo owners g input → AllByRecursion (NamesGuest g) (play event_course p (events_in input)).came
  device-names p (event one) number is = (answer_names p one number is, tt)
  device-names p (turns engine count) number is = turns_name engine count p number

-- ---- what is told

pub courses_are_told : CoursesAreTold
courses_are_told p [] = refl
courses_are_told p (one ∷ events) =
    ap (λ (t : Told). record { replies = (answer p one).reply ∷ t.replies; left = t.left; ran = (answer p one).ran ++ t.ran }) (courses_are_told (answer p one).left events)
