-- Submission through the execlist port (ELSP).
use Rattle.std.specs.Prelude.{ℕ, ◌+◌, ◌*◌, ◌^◌, List, [], ◌∷◌, ◌++◌, true}
use Rattle.gv_csb.specs.Slots.{submitted, submission_answer}
use Rattle.gv_csb.specs.Status.{idle_to_active}
use Rattle.gv_csb.specs.declared.slots.Submitted.{Submitted}
use Rattle.gv_csb.specs.declared.slots.Submitted.TheVariants.{Accepted}
use Rattle.gv_csb.specs.declared.status.Status.{Status}
use Rattle.gv_private.specs.Device.{PrivateDevice, Written, with_engine, with_slots, quietly}
use Rattle.gv_private.specs.Status.{events_given}

-- a list that starts on an idle engine gives an event
abbrev pub starting_events : Submitted → List Status
starting_events (Accepted true) = idle_to_active ∷ []
starting_events answer = []

-- The list of two descriptors is submitted: it is dropped, or takes the running slot, or the pending one.
abbrev pub list_submitted : PrivateDevice → ℕ → ℕ → ℕ → Written
list_submitted p engine first second =
    events_given (with_slots p engine (submitted (p.engines engine).slots first second)) engine
    (starting_events (submission_answer (p.engines engine).slots first))

abbrev pub with_writes : PrivateDevice → ℕ → List ℕ → PrivateDevice
with_writes p engine writes = with_engine p engine (record (p.engines engine) { writes = writes })

-- ELSP takes four writes: high and low dword of element 1, then of element 0. The fourth submits.
abbrev pub port_written_after : List ℕ → PrivateDevice → ℕ → ℕ → Written
port_written_after (high ∷ low ∷ front_high ∷ []) p engine value = list_submitted (with_writes p engine []) engine (front_high * 2 ^ 32 + value) (high * 2 ^ 32 + low)
port_written_after writes p engine value = quietly (with_writes p engine (writes ++ value ∷ []))

abbrev pub port_written : PrivateDevice → ℕ → ℕ → Written
port_written p engine value = port_written_after (p.engines engine).writes p engine value
