-- Status events of such a device.
use Rattle.std.proofs.Common.{◌≡◌, ℕ, ◌+◌, ◌*◌, ◌/◌, ◌%◌, ◌≤◌, Bool, true, false, List, [], ◌∷◌, length, set, refl, sym, ap, ◌∙◌, subst, arith, inl, None}
use Rattle.std.proofs.lemmas.Bool.{cases_eq}
use Rattle.gv_types.specs.Maps.{put}
use Rattle.gv_types.specs.Memory.{Memory, with_half, word_of}
use Rattle.gv_types.specs.declared.event.Width.TheVariants.{Four}
use Rattle.gv_csb.specs.Slots.{next_index}
use Rattle.gv_csb.specs.declared.status.Status.{Status}
use Rattle.gv_irq.specs.Irq.{raised, interrupt_bit}
use Rattle.gv_entry.specs.Tables.{is_guarded}
use Rattle.gv_private.specs.Device.{Written}
use Rattle.gv_private.specs.Grants.{frame_written}
use Rattle.gv_private.specs.Status.{event_given, events_given, context_switch}
use Rattle.gv_calm.proofs.Memories.{Holds, Words, elsewhere-holds}
use Rattle.gv_calm.proofs.Rings.{grant_in, grants-status, low_of, start_of}
use Rattle.gv_calm.proofs.States.{State, IsGood, IsReady, Stage, idle, waits, works, device_of, engine_of, roots_of, status-free}

-- a dword that is written to the status page
abbrev status_memory : Bool → Bool → ℕ → Memory → ℕ → Memory
status_memory g rooted at m value = frame_written m Four at value (grant_in g (length m) (is_guarded m (roots_of rooted)) (at / 4096))

status-holds : (g rooted : Bool) (at : ℕ) (m : Memory) (value : ℕ) (s : Words) → at / 4096 ≡ low_of g + 3 → Holds (start_of g) m s → Holds (start_of g) (status_memory g rooted at m value) s
status-holds g rooted at m value s page h =
    let guarded = is_guarded m (roots_of rooted) in
    let granted = ap (grant_in g (length m) guarded) page ∙ grants-status g (length m) guarded h.frames (status-free (start_of g) rooted m s h) in
    subst (λ grant. Holds (start_of g) (frame_written m Four at value grant) s) (sym granted)
    (elsewhere-holds (start_of g) m s ((3 * 4096 + at % 4096) / 8) (with_half (word_of m ((3 * 4096 + at % 4096) / 8)) (3 * 4096 + at % 4096) value) h (inl (omega arith)))

next_index-bound : (n : ℕ) → n ≤ 7 → next_index n ≤ 7
next_index-bound n few = grind (arith, cases_eq n 7, cases_eq n 5)

abbrev status_at_of : Bool → ℕ → ℕ
status_at_of g dword = (low_of g + 3) * 4096 + 4 * dword

abbrev three_written : Bool → State → Status → Memory
three_written g st status =
    let index = next_index st.write in
    status_memory g st.rooted (status_at_of g 0x1F) (status_memory g st.rooted (status_at_of g (0x11 + 2 * index)) (status_memory g st.rooted (status_at_of g (0x10 + 2 * index)) st.memory status.word) status.number) index

-- the state behind an event
abbrev pub with_event : Bool → List ℕ → State → Status → State
with_event g writes st status = record st {
  memory = three_written g st status;
  interrupts = raised st.interrupts (interrupt_bit 1 context_switch);
  others = put st.others 1 (engine_of g writes st);
  pairs = set st.pairs (next_index st.write) (status.word, status.number);
  write = next_index st.write;
}

pub event-left : (g : Bool) (writes : List ℕ) (st : State) (status : Status) → (event_given (device_of g writes st) 1 status).device ≡ device_of g writes (with_event g writes st status)
event-left true writes st status = refl
event-left false writes st status = refl

page_of : (g : Bool) (dword : ℕ) → dword ≤ 1000 → status_at_of g dword / 4096 ≡ low_of g + 3
page_of true dword few = omega arith
page_of false dword few = omega arith

ready-event : (g : Bool) (writes : List ℕ) (st : State) (status : Status) (stage : Stage) → IsReady stage st → IsReady stage (with_event g writes st status)
ready-event g writes st status idle ready = tt
ready-event g writes st status (waits more) ready = record { tail = ready.tail; stores = ready.stores }
ready-event g writes st status (works more job) ready = (record { tail = ready.0.tail; stores = ready.0.stores }, ready.1, ready.2)

pub event-good : (g : Bool) (writes : List ℕ) (st : State) (status : Status) → IsGood g st → IsGood g (with_event g writes st status)
event-good g writes st status good =
    let index = next_index st.write in
    let few = next_index-bound st.write good.index in
    let one = status_memory g st.rooted (status_at_of g (0x10 + 2 * index)) st.memory status.word in
    let two = status_memory g st.rooted (status_at_of g (0x11 + 2 * index)) one status.number in
    record {
      holds =
          status-holds g st.rooted (status_at_of g 0x1F) two index st.words (page_of g 0x1F (omega arith))
          (status-holds g st.rooted (status_at_of g (0x11 + 2 * index)) one status.number st.words (page_of g (0x11 + 2 * index) (omega (arith, few)))
          (status-holds g st.rooted (status_at_of g (0x10 + 2 * index)) st.memory status.word st.words (page_of g (0x10 + 2 * index) (omega (arith, few))) good.holds));
      index = few;
      ready = ready-event g writes st status st.stage good.ready;
    }

-- What is left by such a device, with no reason told.
pub record Given (g : Bool) (writes : List ℕ) (x : Written) : Type 0 where
  pub quiet : x.reason ≡ None
  pub after : State
  pub left : x.device ≡ device_of g writes after
  pub good : IsGood g after

-- several events
pub events-given : (g : Bool) (writes : List ℕ) (events : List Status) (st : State) → IsGood g st → Given g writes (events_given (device_of g writes st) 1 events)
events-given g writes [] st good = record { quiet = refl; after = st; left = refl; good = good }
events-given g writes (status ∷ more) st good =
    let left = event-left g writes st status in
    let rest = events-given g writes more (with_event g writes st status) (event-good g writes st status good) in
    record {
      quiet = (λ i. (events_given (left i) 1 more).reason) ∙ rest.quiet;
      after = rest.after;
      left = (λ i. (events_given (left i) 1 more).device) ∙ rest.left;
      good = rest.good;
    }
