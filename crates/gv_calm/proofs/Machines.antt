-- The machine of two such devices, and what comes of an input of one of them, of turns, and of a switch.
use Rattle.std.proofs.Common.{◌≡◌, ℕ, zero, suc, Bool, true, false, not, List, [], ◌∷◌, ◌++◌, replicate, refl, sym, ap, ◌∙◌, subst}
use Rattle.std.specs.Prelude.{slice_set}
use Rattle.std.specs.List.{AllByRecursion}
use Rattle.gv_types.specs.declared.event.Event.{Event}
use Rattle.gv_types.specs.declared.event.Event.TheVariants.{Turn, Switch}
use Rattle.gv_types.specs.declared.ids.EngineId.{EngineId}
use Rattle.gv_sched.specs.Rota.{next_owner}
use Rattle.gv_private.specs.Device.{PrivateDevice}
use Rattle.gv_private.specs.Inputs.{Input, event, turns, events_in}
use Rattle.gv_private.specs.Work.{has_work}
use Rattle.gv_machine.specs.Course.{Course, play, onto}
use Rattle.gv_machine.specs.Machine.{Machine, Done, device_at, event_course, guest_course, input_course, work_on}
use Rattle.gv_calm.specs.Calm.{IsQuiet, AreQuiet}
use Rattle.gv_calm.proofs.States.{State, IsGood, Steps, device_of, number_of}
use Rattle.gv_calm.proofs.Turning.{turn-given}
use Rattle.gv_calm.proofs.Writing.{Anything}

-- ---- what one device makes of an input

pub record Runs (g : Bool) (writes after_writes : List ℕ) (Also : State → Type 0) (st : State) (input : Input) : Type 0 where
  pub quiet : AllByRecursion IsQuiet (play event_course (device_of g writes st) (events_in input)).came
  pub after : State
  pub left : (play event_course (device_of g writes st) (events_in input)).left ≡ device_of g after_writes after
  pub good : IsGood g after
  pub also : Also after

pub event-runs : (g : Bool) (writes after_writes : List ℕ) (Also : State → Type 0) (st : State) (one : Event) → Steps g writes after_writes Also st one → Runs g writes after_writes Also st (event one)
event-runs g writes after_writes Also st one steps = record { quiet = (steps.quiet, tt); after = steps.after; left = steps.left; good = steps.good; also = steps.also }

abbrev pub the_engine : EngineId
the_engine = record { 0 = 1 }

pub turns-run : (g : Bool) (count : ℕ) (st : State) → IsGood g st → Runs g [] [] Anything st (turns the_engine count)
turns-run g zero st good = record { quiet = tt; after = st; left = refl; good = good; also = tt }
turns-run g (suc count) st good =
    let first = turn-given g [] st st.stage good in
    let rest = turns-run g count first.after first.good in
    record {
      quiet = (first.quiet, subst (λ (p : PrivateDevice). AllByRecursion IsQuiet (play event_course p (replicate count (Turn the_engine))).came) (sym first.left) rest.quiet);
      after = rest.after;
      left = ap (λ (p : PrivateDevice). (play event_course p (replicate count (Turn the_engine))).left) first.left ∙ rest.left;
      good = rest.good;
      also = tt;
    }

-- ---- the machine

-- the devices, of which this one is guest g's
abbrev pub pair_of : {A : Type 0} → Bool → A → A → List A
pair_of true x y = y ∷ x ∷ []
pair_of false x y = x ∷ y ∷ []

-- What is known of guest g, and that the other one's device is such a device, too; either may own the engine.
pub record Stands (g : Bool) (writes : List ℕ) (Also : State → Type 0) (m : Machine) : Type 0 where
  pub this : State
  pub that : State
  pub devices : m.devices ≡ pair_of g (device_of g writes this) (device_of (not g) [] that)
  pub good : IsGood g this
  pub also : Also this
  pub other : IsGood (not g) that
  pub owner : Bool
  pub owns : m.owners 1 ≡ number_of owner

pub other-way : (g h : Bool) (m : Machine) → Stands g [] Anything m → Stands h [] Anything m
other-way true true m s = s
other-way false false m s = s
other-way true false m s = record { this = s.that; that = s.this; devices = s.devices; good = s.other; also = tt; other = s.good; owner = s.owner; owns = s.owns }
other-way false true m s = record { this = s.that; that = s.this; devices = s.devices; good = s.other; also = tt; other = s.good; owner = s.owner; owns = s.owns }

-- what comes tells no reason, and leaves such a machine
pub record Comes (g : Bool) (writes : List ℕ) (Also : State → Type 0) (c : Course Machine Done) : Type 0 where
  pub quiet : AllByRecursion AreQuiet c.came
  pub left : Stands g writes Also c.left

pub at-this : (g : Bool) (x y : PrivateDevice) → device_at (pair_of g x y) (number_of g) ≡ x
at-this true x y = refl
at-this false x y = refl

pub set-this : (g : Bool) (x y z : PrivateDevice) → slice_set (pair_of g x y) (number_of g) z ≡ pair_of g z y
set-this true x y z = refl
set-this false x y z = refl

module _ (g : Bool) (writes after_writes : List ℕ) (Before After : State → Type 0) (m : Machine) (s : Stands g writes Before m) where
  -- an input of guest g's device
  pub guest-comes : (input : Input) → Runs g writes after_writes After s.this input → Comes g after_writes After (guest_course m (number_of g) input)
  guest-comes input runs =
      let p = device_of g writes s.this in
      let that = device_of (not g) [] s.that in
      let is : device_at m.devices (number_of g) ≡ p = ap (λ devices. device_at devices (number_of g)) s.devices ∙ at-this g p that in
      record {
        quiet = (subst (λ (q : PrivateDevice). AllByRecursion IsQuiet (play event_course q (events_in input)).came) (sym is) runs.quiet, tt);
        left = record {
          this = runs.after;
          that = s.that;
          devices =
              (λ i. slice_set (s.devices i) (number_of g) (play event_course (is i) (events_in input)).left)
              ∙ set-this g p that (play event_course p (events_in input)).left
              ∙ ap (λ (q : PrivateDevice). pair_of g q that) runs.left;
          good = runs.good;
          also = runs.also;
          other = s.other;
          owner = s.owner;
          owns = s.owns;
        };
      }

  -- one event
  pub event-comes : (one : Event) → Steps g writes after_writes After s.this one → Comes g after_writes After (guest_course m (number_of g) (event one))
  event-comes one steps = guest-comes (event one) (event-runs g writes after_writes After s.this one steps)

pub turns-come : (m : Machine) (count : ℕ) → Stands false [] Anything m → Comes false [] Anything (input_course m (turns the_engine count))
turns-come m count s =
    let t = other-way false s.owner m s in
    let c = guest-comes s.owner [] [] Anything Anything m t (turns the_engine count) (turns-run s.owner count t.this t.good) in
    subst (λ (owner : ℕ). Comes false [] Anything (guest_course m owner (turns the_engine count))) (sym s.owns)
    (record { quiet = c.quiet; left = other-way s.owner false (guest_course m (number_of s.owner) (turns the_engine count)).left c.left })

-- the next owner is one of the two
next-two : (a b owner : Bool) → (next : Bool) × (next_owner (a ∷ b ∷ []) (number_of owner) ≡ number_of next)
next-two true true true = (false, refl)
next-two true true false = (true, refl)
next-two true false true = (false, refl)
next-two true false false = (false, refl)
next-two false true true = (true, refl)
next-two false true false = (true, refl)
next-two false false true = (true, refl)
next-two false false false = (false, refl)

pub switch-comes : (m : Machine) → Stands false [] Anything m → Comes false [] Anything (input_course m (event (Switch the_engine)))
switch-comes m s =
    let this = device_of false [] s.this in
    let that = device_of true [] s.that in
    let next = next-two (has_work 1 this) (has_work 1 that) s.owner in
    record {
      quiet = ((refl, tt), tt);
      left = record { this = s.this; that = s.that; devices = s.devices; good = s.good; also = tt; other = s.other; owner = next.0; owns = (λ i. next_owner (work_on 1 (s.devices i)) (s.owns i)) ∙ next.1 };
    }

-- ---- one after another

pub all-append : {X : Type 0} (P : X → Type 0) (xs ys : List X) → AllByRecursion P xs → AllByRecursion P ys → AllByRecursion P (xs ++ ys)
all-append P [] ys first rest = rest
all-append P (x ∷ xs) ys first rest = (first.0, all-append P xs ys first.1 rest)

pub comes-onto : (g : Bool) (writes : List ℕ) (Also : State → Type 0) (a b : Course Machine Done) → AllByRecursion AreQuiet a.came → Comes g writes Also b → Comes g writes Also (onto a b)
comes-onto g writes Also a b first rest = record { quiet = all-append AreQuiet a.came b.came first rest.quiet; left = rest.left }

pub comes-end : (g : Bool) (writes : List ℕ) (Also : State → Type 0) (a : Course Machine Done) → Comes g writes Also a → Comes g writes Also (onto a (record { left = a.left; came = [] }))
comes-end g writes Also a first = comes-onto g writes Also a (record { left = a.left; came = [] }) first.quiet (record { quiet = tt; left = first.left })
