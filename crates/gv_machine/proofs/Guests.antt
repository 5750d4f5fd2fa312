-- The guests of a machine stay.
use Rattle.std.proofs.Common.{◌≡◌, ◌≢◌, ◌⊎◌, inl, inr, ℕ, ◌+◌, ◌<◌, false, List, [], ◌∷◌, length, set, refl, ap, sym, ◌∙◌, subst, arith}
use Rattle.std.proofs.lemmas.Bool.{cases_eq}
use Rattle.std.proofs.lemmas.List.{length-replicate, get_or-set_other}
use Rattle.std.specs.List.{flat_map}
use Rattle.gv_types.specs.Memory.{zero_words}
use Rattle.gv_balloon.specs.Shares.{nothing_given}
use Rattle.gv_text.specs.Script.{Script, script_of}
use Rattle.gv_private.specs.Device.{PrivateDevice, new_device}
use Rattle.gv_private.specs.Inputs.{Input}
use Rattle.gv_private.specs.Laws.{SameGuest}
use Rattle.gv_machine.specs.Course.{Course}
use Rattle.gv_machine.specs.Laws.{SameGuests, GuestsStay, IsOfGuest, HasGuests, MachinesHaveTheirGuests}
use Rattle.gv_machine.specs.Machine.{Machine, Done, Receiver, device, rota, receiver, received, no_ranges, new_machine, device_at, device_course, input_course, inputs_in}
use Rattle.gv_machine.specs.Report.{machine_of, course_of}
use Rattle.gv_machine.specs.Solo.{frames_of}
use Rattle.gv_machine.proofs.Devices.{device-same, same-trans}
use Rattle.gv_machine.proofs.Isolation.{guests, machine, all, count, joined}
use Rattle.gv_machine.proofs.Joined.{length_received, device-from}
use Rattle.gv_machine.proofs.Named.{IsRun, run-script_of}
use Rattle.gv_machine.proofs.OwnCourse.{set_own}

same : (p : PrivateDevice) → SameGuest p p
same p = record { number = refl; frames = refl; ranges = refl }

-- one device in place of another of the same guest
by_guest : (devices : List PrivateDevice) (k g : ℕ) (p : PrivateDevice) → g < length devices → SameGuest (device_at devices k) p → (g ≡ k) ⊎ (g ≢ k) → SameGuest (device_at devices g) (device_at (set devices k p) g)
by_guest devices k g p there alike (inl is) =
    subst (λ i. SameGuest (device_at devices i) (device_at (set devices k p) i)) (sym is)
    (subst (SameGuest (device_at devices k)) (sym (set_own devices k p (subst (λ i. i < length devices) is there))) alike)
by_guest devices k g p there alike (inr differ) = subst (SameGuest (device_at devices g)) (sym (get_or-set_other devices k g p (new_device 0 0 no_ranges) differ)) (same (device_at devices g))

each_received : (m : Machine) (input : Input) (r : Receiver) (g : ℕ) → g < length m.devices → SameGuest (device_at m.devices g) (device_at (received m input r).left.devices g)
each_received m input (device k) g there = by_guest m.devices k g (device_course (device_at m.devices k) input).left there (device-same (device_at m.devices k) input) (cases_eq g k)
each_received m input (rota engine) g there = same (device_at m.devices g)

same_received : (m : Machine) (input : Input) → SameGuests m (input_course m input).left
same_received m input = record { count = length_received m input (receiver m.owners input); each = each_received m input (receiver m.owners input) }

both : {m n k : Machine} → SameGuests m n → SameGuests n k → SameGuests m k
both {m} {n} {k} first second = record {
  count = second.count ∙ first.count;
  each = λ g there. same-trans (first.each g there) (second.each g (subst (λ n. g < n) (sym first.count) there));
}

pub guests_stay : GuestsStay
guests_stay m [] = record { count = refl; each = λ g there. same (device_at m.devices g) }
guests_stay m (input ∷ inputs) = both (same_received m input) (guests_stay (input_course m input).left inputs)

-- ---- of a script

module _ (script : Script) (run : IsRun false 0 script.lines) where
  stays : SameGuests (machine script run) (all script run).left
  stays = guests_stay (machine script run) (flat_map inputs_in script.lines)

  first_of : (g : ℕ) → g < length (guests script run) → IsOfGuest script.lines g (device_at (machine script run).devices g)
  first_of g there =
      let number : 0 + g ≡ g = omega arith in
      let is = device-from 0 nothing_given (guests script run) g there in
      record {
        number = ap (λ (p : PrivateDevice). p.number) is ∙ number;
        frames = ap (λ (p : PrivateDevice). length p.memory) is ∙ length-replicate (frames_of script.lines g) zero_words;
        ranges = ap (λ (p : PrivateDevice). p.ranges) is;
      }

  of_guest : (g : ℕ) (p q : PrivateDevice) → IsOfGuest script.lines g p → SameGuest p q → IsOfGuest script.lines g q
  of_guest g p q is alike = record { number = alike.number ∙ is.number; frames = alike.frames ∙ is.frames; ranges = alike.ranges ∙ is.ranges }

  pub has-guests : HasGuests script.lines (course_of new_machine script).left
  has-guests = subst (λ (c : Course Machine Done). HasGuests script.lines c.left) (sym (joined script run)) (record {
    count = stays.count ∙ count script run;
    each = λ g there. of_guest g _ _ (first_of g there) (stays.each g (subst (λ n. g < n) (sym (count script run)) there));
  })

pub machines_have_their_guests : MachinesHaveTheirGuests
unfolding machine_of
machines_have_their_guests source = has-guests (script_of source) (run-script_of source)
