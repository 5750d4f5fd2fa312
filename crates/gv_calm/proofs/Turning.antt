-- A turn of such a device tells no reason.
use Rattle.std.proofs.Common.{◌≡◌, ℕ, ◌+◌, ◌*◌, ◌/◌, ◌%◌, ◌^◌, ◌≤◌, Bool, true, false, not, List, [], ◌∷◌, length, refl, sym, ap, ◌∙◌, subst, arith, ltb, inr, None, Some, Result, Ok}
use Rattle.gv_types.specs.Maps.{put}
use Rattle.gv_types.specs.Memory.{Memory, with_half, word_of}
use Rattle.gv_types.specs.declared.event.Width.TheVariants.{Four}
use Rattle.gv_types.specs.declared.reply.Reason.{Reason}
use Rattle.gv_types.specs.declared.reply.Reason.TheVariants.{Entry}
use Rattle.gv_cmd.specs.Table.{kind_of}
use Rattle.gv_csb.specs.Slots.{completed, completion_events}
use Rattle.gv_ctx.specs.declared.image.Image.{Image}
use Rattle.gv_entry.specs.Grants.{write_grant}
use Rattle.gv_entry.specs.Tables.{is_guarded}
use Rattle.gv_fetch.specs.Fetch.{check, then}
use Rattle.gv_fetch.specs.Items.{Items}
use Rattle.gv_fetch.specs.Left.{begun}
use Rattle.gv_private.specs.Device.{PrivateDevice, with_element}
use Rattle.gv_private.specs.Grants.{frame_written}
use Rattle.gv_private.specs.Load.{loaded, good_or_context, fetched_into}
use Rattle.gv_private.specs.Roots.{announced}
use Rattle.gv_private.specs.Turn.{load_by, turned}
use Rattle.gv_calm.proofs.Memories.{Holds, Words, Leaf, twelve, thirteen, fourteen, fifteen, frame_in, elsewhere-holds, head-written, none-bad}
use Rattle.gv_calm.proofs.Rings.{AreStore, the_image, grant_in, grants-image, image-reads, fetches, low_of, ring_items_of, start_of}
use Rattle.gv_calm.proofs.States.{State, Stage, idle, waits, works, Job, nothing, store, IsGood, IsListed, device_of, engine_of, descriptor_of_guest, list_if, roots_of, image-free, ring-free}
use Rattle.gv_calm.proofs.Statuses.{Given, events-given}
use Rattle.gv_calm.proofs.Stores.{store-granted}

abbrev in_stage : State → Stage → State
in_stage st stage = record st { stage = stage }

-- ---- a load

-- the root is there afterwards
abbrev with_the_root : Bool → List ℕ → State → PrivateDevice
with_the_root g writes st = record (device_of g writes st) { roots = 8 ∷ [] }

announces : (g : Bool) (writes : List ℕ) (st : State) (rooted : Bool) (start : ℕ) → Holds start st.memory st.words → announced (device_of g writes (record st { rooted = rooted })) 8 ≡ Ok (with_the_root g writes st)
announces g writes st true start h = λ i. check (ltb 8 (h.frames i)) Entry (check (not (none-bad start st.memory st.words h i)) Entry (Ok (with_the_root g writes st)))
announces g writes st false start h = λ i. check (ltb 8 (h.frames i)) Entry (check (not (none-bad start st.memory st.words h i)) Entry (Ok (with_the_root g writes st)))

-- what the load leaves, by what it fetched
abbrev with_items : Bool → List ℕ → State → Items → PrivateDevice
with_items g writes st items = with_element (with_the_root g writes st) 1 (Some (record { root = 8; tail = 0x10; left = begun items }))

abbrev job_of : Bool → ℕ → ℕ → Job
job_of true x y = nothing
job_of false x y = store (x / 2 ^ 32) (y / 2 ^ 32)

abbrev with_job : Bool → List ℕ → State → Bool → Job → State
with_job g writes st more job = record st { rooted = true; others = put st.others 1 (engine_of g writes (in_stage st (waits more))); stage = works more job }

loaded_items : (g : Bool) (writes : List ℕ) (st : State) (more head : Bool) (x y : ℕ) → with_items g writes (in_stage st (waits more)) (ring_items_of head x y) ≡ device_of g writes (with_job g writes st more (job_of head x y))
loaded_items g writes st more true x y = refl
loaded_items g writes st more false x y = refl

module _ (writes : List ℕ) (st : State) (more : Bool) where
  abbrev waiting : State
  waiting = in_stage st (waits more)

  -- behind the image
  abbrev rest_of : Bool → Image → Result PrivateDevice Reason
  rest_of g image = then (announced (device_of g writes waiting) image.root) (λ q. fetched_into q 1 image)

  rest-loads : (g : Bool) → Holds (start_of g) st.memory st.words → AreStore st.words.x st.words.y → rest_of g (the_image g st.words.head) ≡ Ok (device_of g writes (with_job g writes st more (job_of st.words.head st.words.x st.words.y)))
  rest-loads g h stores =
      (λ i. then (announces g writes waiting st.rooted (start_of g) h i) (λ q. fetched_into q 1 (the_image g st.words.head)))
      ∙ (λ i. then (fetches g st.memory (is_guarded st.memory (8 ∷ [])) st.words h stores (ring-free (start_of g) true st.memory st.words h) i) (λ items. Ok (with_items g writes waiting items)))
      ∙ ap Ok (loaded_items g writes st more st.words.head st.words.x st.words.y)

  loads : (g : Bool) → Holds (start_of g) st.memory st.words → IsListed st → loaded (device_of g writes waiting) 1 (descriptor_of_guest g) ≡ Ok (device_of g writes (with_job g writes st more (job_of st.words.head st.words.x st.words.y)))
  loads true h listed =
      (λ i. then (good_or_context (image-reads true st.memory (is_guarded st.memory (roots_of st.rooted)) st.words h listed.tail (image-free (start_of true) st.rooted st.memory st.words h) i)) (rest_of true))
      ∙ rest-loads true h listed.stores
  loads false h listed =
      (λ i. then (good_or_context (image-reads false st.memory (is_guarded st.memory (roots_of st.rooted)) st.words h listed.tail (image-free (start_of false) st.rooted st.memory st.words h) i)) (rest_of false))
      ∙ rest-loads false h listed.stores

  job-good : (g head : Bool) → Holds (start_of g) st.memory st.words → st.write ≤ 7 → IsListed st → IsGood g (with_job g writes st more (job_of head st.words.x st.words.y))
  job-good g true h few listed = record { holds = h; index = few; ready = (record { tail = listed.tail; stores = listed.stores }, refl, tt) }
  job-good g false h few listed = record { holds = h; index = few; ready = (record { tail = listed.tail; stores = listed.stores }, refl, listed.stores.page) }

  load-given : (g : Bool) → Holds (start_of g) st.memory st.words → st.write ≤ 7 → IsListed st → Given g writes (turned (device_of g writes waiting) 1).left
  load-given g h few listed =
      let is = loads g h listed in
      record {
        quiet = (λ i. (load_by (device_of g writes waiting) (is i)).left.reason);
        after = with_job g writes st more (job_of st.words.head st.words.x st.words.y);
        left = (λ i. (load_by (device_of g writes waiting) (is i)).left.device);
        good = job-good g st.words.head h few listed;
      }

-- ---- a completion

-- the memory with the tail
abbrev with_tail : Bool → Bool → Memory → Memory
with_tail g rooted m = frame_written m Four ((low_of g + 1) * 4096 + 0x14) 0x10 (grant_in g (length m) (is_guarded m (roots_of rooted)) (low_of g + 1))

tail-holds : (g rooted : Bool) (m : Memory) (s : Words) → Holds (start_of g) m s → Holds (start_of g) (with_tail g rooted m) (record s { head = true })
tail-holds true rooted m s h =
    subst (λ grant. Holds (start_of true) (frame_written m Four 0x11014 0x10 grant) (record s { head = true })) (sym (grants-image true (length m) (is_guarded m (roots_of rooted)) h.frames (image-free (start_of true) rooted m s h)))
    (head-written (start_of true) m s true h)
tail-holds false rooted m s h =
    subst (λ grant. Holds (start_of false) (frame_written m Four 0x1014 0x10 grant) (record s { head = true })) (sym (grants-image false (length m) (is_guarded m (roots_of rooted)) h.frames (image-free (start_of false) rooted m s h)))
    (head-written (start_of false) m s true h)

abbrev next_stage : Bool → Stage
next_stage true = waits false
next_stage false = idle

abbrev before_completion : State → Bool → State
before_completion st more = in_stage st (works more nothing)

abbrev completed_state : Bool → List ℕ → State → Bool → State
completed_state g writes st more = record st {
  memory = with_tail g st.rooted st.memory;
  others = put (put st.others 1 (engine_of g writes (before_completion st more))) 1 (record (engine_of g writes (before_completion st more)) { slots = completed (engine_of g writes (before_completion st more)).slots });
  stage = next_stage more;
  words = record (st.words) { head = true };
}

completed-good : (g : Bool) (writes : List ℕ) (st : State) (more : Bool) → Holds (start_of g) st.memory st.words → st.write ≤ 7 → IsListed st → IsGood g (completed_state g writes st more)
completed-good g writes st true h few listed = record { holds = tail-holds g st.rooted st.memory st.words h; index = few; ready = record { tail = listed.tail; stores = listed.stores } }
completed-good g writes st false h few listed = record { holds = tail-holds g st.rooted st.memory st.words h; index = few; ready = tt }

completion-given : (g : Bool) (writes : List ℕ) (st : State) (more : Bool) → IsGood g (completed_state g writes st more) → Given g writes (turned (device_of g writes (before_completion st more)) 1).left
completion-given true writes st true good = events-given true writes (completion_events (descriptor_of_guest true ∷ []) (list_if true true)) (completed_state true writes st true) good
completion-given true writes st false good = events-given true writes (completion_events (descriptor_of_guest true ∷ []) (list_if true false)) (completed_state true writes st false) good
completion-given false writes st true good = events-given false writes (completion_events (descriptor_of_guest false ∷ []) (list_if false true)) (completed_state false writes st true) good
completion-given false writes st false good = events-given false writes (completion_events (descriptor_of_guest false ∷ []) (list_if false false)) (completed_state false writes st false) good

-- ---- a store

abbrev store_memory : Memory → Bool → ℕ → ℕ → Memory
store_memory m rooted at value = frame_written m Four (0 + at / 4 * 4) value (write_grant m (roots_of rooted) 8 (0 + at / 4 * 4))

from_twelve : (leaf : Leaf) → 12 ≤ frame_in leaf
from_twelve twelve = omega arith
from_twelve thirteen = omega arith
from_twelve fourteen = omega arith
from_twelve fifteen = omega arith

store-holds : (g rooted : Bool) (m : Memory) (s : Words) (at value : ℕ) → Holds (start_of g) m s → rooted ≡ true → at / 2 ^ 12 ≡ 1 → Holds (start_of g) (store_memory m rooted at value) s
store-holds g rooted m s at value h there page =
    let to = 0 + at / 4 * 4 in
    let high = from_twelve s.b in
    subst (λ grant. Holds (start_of g) (frame_written m Four to value grant) s) (sym (ap (λ r. write_grant m (roots_of r) 8 to) there ∙ store-granted (start_of g) m s h at page))
    (elsewhere-holds (start_of g) m s ((frame_in s.b * 4096 + to % 4096) / 8) (with_half (word_of m ((frame_in s.b * 4096 + to % 4096) / 8)) (frame_in s.b * 4096 + to % 4096) value) h (inr (omega (arith, high))))

abbrev stored_state : Bool → List ℕ → State → Bool → ℕ → ℕ → State
stored_state g writes st more at value = record st {
  memory = store_memory st.memory st.rooted at value;
  others = put (put st.others 1 (engine_of g writes (in_stage st (works more (store at value))))) 1 (engine_of g writes (in_stage st (works more (store at value))));
  stage = works more nothing;
}

store-left : (g : Bool) (writes : List ℕ) (st : State) (more : Bool) (at value : ℕ) → (turned (device_of g writes (in_stage st (works more (store at value)))) 1).left.device ≡ device_of g writes (stored_state g writes st more at value)
unfolding kind_of
store-left g writes st more at value = refl

store-quiet : (g : Bool) (writes : List ℕ) (st : State) (more : Bool) (at value : ℕ) → (turned (device_of g writes (in_stage st (works more (store at value)))) 1).left.reason ≡ None
unfolding kind_of
store-quiet g writes st more at value = refl

-- ---- any turn

pub turn-given : (g : Bool) (writes : List ℕ) (st : State) (stage : Stage) → IsGood g (in_stage st stage) → Given g writes (turned (device_of g writes (in_stage st stage)) 1).left
turn-given g writes st idle good = record { quiet = refl; after = in_stage st idle; left = refl; good = good }
turn-given g writes st (waits more) good = load-given writes st more g good.holds good.index (record { tail = good.ready.tail; stores = good.ready.stores })
turn-given g writes st (works more nothing) good =
    completion-given g writes st more (completed-good g writes st more good.holds good.index (record { tail = good.ready.0.tail; stores = good.ready.0.stores }))
turn-given g writes st (works more (store at value)) good = record {
  quiet = store-quiet g writes st more at value;
  after = stored_state g writes st more at value;
  left = store-left g writes st more at value;
  good = record {
    holds = store-holds g st.rooted st.memory st.words at value good.holds good.ready.1 good.ready.2;
    index = good.index;
    ready = (record { tail = good.ready.0.tail; stores = good.ready.0.stores }, good.ready.1, tt);
  };
}
