-- Number, frames and ranges stay.
use Rattle.std.proofs.Common.{ℕ, ◌/◌, Bool, true, false, cond, ◌∙◌, refl}
use Rattle.gv_types.specs.declared.event.Width.TheVariants.{Four}
use Rattle.gv_private.specs.Device.{PrivateDevice}
use Rattle.gv_private.specs.Grants.{page_grant}
use Rattle.gv_private.specs.Laws.{SameGuest, GuestStays}
use Rattle.gv_private.specs.Roots.{is_at_work, without_root}
use Rattle.gv_private.proofs.Keeps.{frame_written-length, KeptByEvents, KeptByAccesses, KeptByTurns, Anything, event-always}

destroyed-guest : (p : PrivateDevice) (b : Bool) (q r : PrivateDevice) → SameGuest p q → SameGuest p r → SameGuest p (cond b q r)
destroyed-guest p true q r first second = first
destroyed-guest p false q r first second = second

events-kept : (p : PrivateDevice) → KeptByEvents (SameGuest p)
events-kept p = record {
  interrupts = λ q i here. record { number = here.number; frames = here.frames; ranges = here.ranges };
  slots = λ q engine s here. record { number = here.number; frames = here.frames; ranges = here.ranges };
  granted = λ q at value here. record { number = here.number; frames = frame_written-length q.memory Four at value (page_grant q (at / 4096)) ∙ here.frames; ranges = here.ranges };
}

accesses-kept : (p : PrivateDevice) → KeptByAccesses (SameGuest p) Anything
accesses-kept p = record {
  events = events-kept p;
  memory = λ q m same here. record { number = here.number; frames = same ∙ here.frames; ranges = here.ranges };
  entries = λ q e here. record { number = here.number; frames = here.frames; ranges = here.ranges };
  registers = λ q r here. record { number = here.number; frames = here.frames; ranges = here.ranges };
  writes = λ q engine ws here. record { number = here.number; frames = here.frames; ranges = here.ranges };
  general = λ q engine g here. record { number = here.number; frames = here.frames; ranges = here.ranges };
  announced = λ q root here. record { number = here.number; frames = here.frames; ranges = here.ranges };
  destroyed = λ q root here. destroyed-guest p (is_at_work q root) q (record q { roots = without_root q.roots root }) here (record { number = here.number; frames = here.frames; ranges = here.ranges });
  reset = λ q value may here. record { number = here.number; frames = here.frames; ranges = here.ranges };
  failed = λ q here. record { number = here.number; frames = here.frames; ranges = here.ranges };
}

turns-kept : (p : PrivateDevice) (engine : ℕ) → KeptByTurns (SameGuest p) Anything engine
turns-kept p engine = record {
  accesses = accesses-kept p;
  gone = λ q here. record { number = here.number; frames = here.frames; ranges = here.ranges };
  begun = λ q w has here. record { number = here.number; frames = here.frames; ranges = here.ranges };
  moved = λ q w left works here. record { number = here.number; frames = here.frames; ranges = here.ranges };
}

pub guest_stays : GuestStays
guest_stays p event =
    event-always (SameGuest p) (turns-kept p) (λ q here. record { number = here.number; frames = here.frames; ranges = here.ranges }) p event
    (record { number = refl; frames = refl; ranges = refl })
