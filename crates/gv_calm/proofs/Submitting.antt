-- The writes of a submission tell no reason: the ring's command, its head and tail, and the four to the port.
use Rattle.std.proofs.Common.{◌≡◌, ℕ, ◌+◌, ◌*◌, ◌/◌, ◌%◌, ◌^◌, Bool, true, false, List, [], ◌∷◌, set, refl, ap, ◌∙◌, arith}
use Rattle.std.specs.Prelude.{slice_index}
use Rattle.gv_types.specs.Maps.{put}
use Rattle.gv_types.specs.Memory.{Memory, with_value, word_of}
use Rattle.gv_types.specs.declared.event.Event.TheVariants.{Write}
use Rattle.gv_types.specs.declared.event.Place.TheVariants as places
use Rattle.gv_types.specs.declared.event.Width.TheVariants.{Four}
use Rattle.gv_types.specs.declared.ids.GuestId.{GuestId}
use Rattle.gv_csb.specs.Status.{idle_to_active}
use Rattle.gv_regs.specs.Table.{row_at}
use Rattle.gv_private.specs.Access.{value_written}
use Rattle.gv_private.specs.Device.{Written}
use Rattle.gv_calm.proofs.Memories.{Holds, Words, head-written, ring-written, ring_words, tail-written}
use Rattle.gv_calm.proofs.Rings.{AreStore, start_of}
use Rattle.gv_calm.proofs.States.{State, Stage, idle, waits, works, IsGood, IsListed, IsReady, Steps, descriptor_of_guest, device_of, engine_of}
use Rattle.gv_calm.proofs.Statuses.{Given, events-given}
use Rattle.gv_calm.proofs.Writing.{Anything, memory-steps}

-- ---- the ring's four dwords

header_set : (x y v : ℕ) → set (ring_words x y) 0 (slice_index (ring_words x y) 0 / 2 ^ 32 * 2 ^ 32 + v) ≡ ring_words (x / 2 ^ 32 * 2 ^ 32 + v) y
unfolding ring_words
header_set x y v = refl

page_set : (x y v : ℕ) → set (ring_words x y) 0 (v * 2 ^ 32 + slice_index (ring_words x y) 0 % 2 ^ 32) ≡ ring_words (v * 2 ^ 32 + x % 2 ^ 32) y
unfolding ring_words
page_set x y v = refl

high_set : (x y v : ℕ) → set (ring_words x y) 1 (slice_index (ring_words x y) 1 / 2 ^ 32 * 2 ^ 32 + v) ≡ ring_words x (y / 2 ^ 32 * 2 ^ 32 + v)
unfolding ring_words
high_set x y v = refl

value_set : (x y v : ℕ) → set (ring_words x y) 1 (v * 2 ^ 32 + slice_index (ring_words x y) 1 % 2 ^ 32) ≡ ring_words x (v * 2 ^ 32 + y % 2 ^ 32)
unfolding ring_words
value_set x y v = refl

module _ (start : ℕ) (m : Memory) (s : Words) (h : Holds start m s) (v : ℕ) where
  header-holds : Holds start (with_value m Four 0x2000 v) (record s { x = s.x / 2 ^ 32 * 2 ^ 32 + v })
  header-holds =
      ring-written start m s 0x400 (word_of m 0x400 / 2 ^ 32 * 2 ^ 32 + v) (s.x / 2 ^ 32 * 2 ^ 32 + v) s.y h refl
      (ap (λ words. set (ring_words s.x s.y) 0 (slice_index words 0 / 2 ^ 32 * 2 ^ 32 + v)) h.ring ∙ header_set s.x s.y v)

  page-holds : Holds start (with_value m Four 0x2004 v) (record s { x = v * 2 ^ 32 + s.x % 2 ^ 32 })
  page-holds =
      ring-written start m s 0x400 (v * 2 ^ 32 + word_of m 0x400 % 2 ^ 32) (v * 2 ^ 32 + s.x % 2 ^ 32) s.y h refl
      (ap (λ words. set (ring_words s.x s.y) 0 (v * 2 ^ 32 + slice_index words 0 % 2 ^ 32)) h.ring ∙ page_set s.x s.y v)

  high-holds : Holds start (with_value m Four 0x2008 v) (record s { y = s.y / 2 ^ 32 * 2 ^ 32 + v })
  high-holds =
      ring-written start m s 0x401 (word_of m 0x401 / 2 ^ 32 * 2 ^ 32 + v) s.x (s.y / 2 ^ 32 * 2 ^ 32 + v) h refl
      (ap (λ words. set (ring_words s.x s.y) 1 (slice_index words 1 / 2 ^ 32 * 2 ^ 32 + v)) h.ring ∙ high_set s.x s.y v)

  value-holds : Holds start (with_value m Four 0x200C v) (record s { y = v * 2 ^ 32 + s.y % 2 ^ 32 })
  value-holds =
      ring-written start m s 0x401 (v * 2 ^ 32 + word_of m 0x401 % 2 ^ 32) s.x (v * 2 ^ 32 + s.y % 2 ^ 32) h refl
      (ap (λ words. set (ring_words s.x s.y) 1 (v * 2 ^ 32 + slice_index words 1 % 2 ^ 32)) h.ring ∙ value_set s.x s.y v)

-- ---- what is known of the ring behind each

abbrev pub HasHeader : State → Type 0
HasHeader st = st.words.x % 2 ^ 32 ≡ 0x10000002

abbrev pub HasPage : State → Type 0
HasPage st = HasHeader st × (st.words.x / 2 ^ 32 / 2 ^ 12 ≡ 1)

abbrev pub HasStore : State → Type 0
HasStore st = AreStore st.words.x st.words.y

header-of : (x : ℕ) → (x / 2 ^ 32 * 2 ^ 32 + 0x10000002) % 2 ^ 32 ≡ 0x10000002
header-of x = omega arith

header-page : (x : ℕ) → (x / 2 ^ 32 * 2 ^ 32 + 0x10000002) / 2 ^ 32 ≡ x / 2 ^ 32
header-page x = omega arith

page-header : (x v : ℕ) → (v * 2 ^ 32 + x % 2 ^ 32) % 2 ^ 32 ≡ x % 2 ^ 32
page-header x v = omega arith

page-page : (x v : ℕ) → (v * 2 ^ 32 + x % 2 ^ 32) / 2 ^ 32 ≡ v
page-page x v = omega arith

page-is : (x k : ℕ) → ((0x1000 + 4 * (k % 1024)) * 2 ^ 32 + x % 2 ^ 32) / 2 ^ 32 / 2 ^ 12 ≡ 1
page-is x k = ap (λ a. a / 2 ^ 12) (page-page x (0x1000 + 4 * (k % 1024))) ∙ omega arith

high-of : (y : ℕ) → (y / 2 ^ 32 * 2 ^ 32 + 0) % 2 ^ 32 ≡ 0
high-of y = omega arith

pub header-steps : (g : Bool) (st : State) (guest : GuestId) → IsGood g st → Steps g [] [] HasHeader st (Write guest places.Memory Four 0x2000 0x10000002)
header-steps g st guest good =
    memory-steps g [] HasHeader st guest Four 0x2000 0x10000002 (record (st.words) { x = st.words.x / 2 ^ 32 * 2 ^ 32 + 0x10000002 }) good (omega arith)
    (header-holds (start_of g) st.memory st.words good.holds 0x10000002)
    (λ listed. record { tail = listed.tail; stores = record { header = header-of st.words.x; page = ap (λ a. a / 2 ^ 12) (header-page st.words.x) ∙ listed.stores.page; high = listed.stores.high } })
    (header-of st.words.x)

pub page-steps : (g : Bool) (st : State) (guest : GuestId) (k : ℕ) → IsGood g st → HasHeader st → Steps g [] [] HasPage st (Write guest places.Memory Four 0x2004 (0x1000 + 4 * (k % 1024)))
page-steps g st guest k good header =
    let at = 0x1000 + 4 * (k % 1024) in
    memory-steps g [] HasPage st guest Four 0x2004 at (record (st.words) { x = at * 2 ^ 32 + st.words.x % 2 ^ 32 }) good (omega arith)
    (page-holds (start_of g) st.memory st.words good.holds at)
    (λ listed. record { tail = listed.tail; stores = record { header = page-header st.words.x at ∙ header; page = page-is st.words.x k; high = listed.stores.high } })
    (page-header st.words.x at ∙ header, page-is st.words.x k)

pub high-steps : (g : Bool) (st : State) (guest : GuestId) → IsGood g st → HasPage st → Steps g [] [] HasStore st (Write guest places.Memory Four 0x2008 0)
high-steps g st guest good page =
    let stores : AreStore st.words.x (st.words.y / 2 ^ 32 * 2 ^ 32 + 0) = record { header = page.0; page = page.1; high = high-of st.words.y } in
    memory-steps g [] HasStore st guest Four 0x2008 0 (record (st.words) { y = st.words.y / 2 ^ 32 * 2 ^ 32 + 0 }) good (omega arith)
    (high-holds (start_of g) st.memory st.words good.holds 0)
    (λ listed. record { tail = listed.tail; stores = stores })
    stores

pub value-steps : (g : Bool) (st : State) (guest : GuestId) (v : ℕ) → IsGood g st → HasStore st → Steps g [] [] HasStore st (Write guest places.Memory Four 0x200C v)
value-steps g st guest v good stores =
    let after : AreStore st.words.x (v * 2 ^ 32 + st.words.y % 2 ^ 32) = record { header = stores.header; page = stores.page; high = page-header st.words.y v ∙ stores.high } in
    memory-steps g [] HasStore st guest Four 0x200C v (record (st.words) { y = v * 2 ^ 32 + st.words.y % 2 ^ 32 }) good (omega arith)
    (value-holds (start_of g) st.memory st.words good.holds v)
    (λ listed. record { tail = listed.tail; stores = after })
    after

-- ---- the image

pub head-steps : (g : Bool) (st : State) (guest : GuestId) → IsGood g st → HasStore st → Steps g [] [] HasStore st (Write guest places.Memory Four 0x1014 0)
head-steps g st guest good stores =
    memory-steps g [] HasStore st guest Four 0x1014 0 (record (st.words) { head = false }) good (omega arith)
    (head-written (start_of g) st.memory st.words false good.holds)
    (λ listed. record { tail = listed.tail; stores = listed.stores })
    stores

pub tail-steps : (g : Bool) (st : State) (guest : GuestId) → IsGood g st → HasStore st → Steps g [] [] IsListed st (Write guest places.Memory Four 0x101C 0x10)
tail-steps g st guest good stores =
    memory-steps g [] IsListed st guest Four 0x101C 0x10 (record (st.words) { tail = true }) good (omega arith)
    (tail-written (start_of g) st.memory st.words good.holds)
    (λ listed. record { tail = refl; stores = listed.stores })
    (record { tail = refl; stores = stores })

-- ---- the port

-- the device with another dword of a submission
abbrev others_behind : Bool → List ℕ → State → State
others_behind g writes st = record st { others = put st.others 1 (engine_of g writes st) }

ready-behind : (g : Bool) (writes : List ℕ) (st : State) (stage : Stage) → IsReady stage st → IsReady stage (others_behind g writes st)
ready-behind g writes st idle ready = tt
ready-behind g writes st (waits more) ready = record { tail = ready.tail; stores = ready.stores }
ready-behind g writes st (works more job) ready = (record { tail = ready.0.tail; stores = ready.0.stores }, ready.1, ready.2)

behind-good : (g : Bool) (writes : List ℕ) (st : State) → IsGood g st → IsGood g (others_behind g writes st)
behind-good g writes st good = record { holds = good.holds; index = good.index; ready = ready-behind g writes st st.stage good.ready }

pub first-steps : (g : Bool) (st : State) (guest : GuestId) (a : ℕ) → IsGood g st → IsListed st → Steps g [] (a ∷ []) IsListed st (Write guest places.Registers Four 0x22230 a)
unfolding row_at
first-steps g st guest a good listed = record { quiet = refl; after = others_behind g [] st; left = refl; good = behind-good g [] st good; also = record { tail = listed.tail; stores = listed.stores } }

pub second-steps : (g : Bool) (st : State) (guest : GuestId) (a b : ℕ) → IsGood g st → IsListed st → Steps g (a ∷ []) (a ∷ b ∷ []) IsListed st (Write guest places.Registers Four 0x22230 b)
unfolding row_at
second-steps g st guest a b good listed = record { quiet = refl; after = others_behind g (a ∷ []) st; left = refl; good = behind-good g (a ∷ []) st good; also = record { tail = listed.tail; stores = listed.stores } }

pub third-steps : (g : Bool) (st : State) (guest : GuestId) (a b c : ℕ) → IsGood g st → IsListed st → Steps g (a ∷ b ∷ []) (a ∷ b ∷ c ∷ []) IsListed st (Write guest places.Registers Four 0x22230 c)
unfolding row_at
third-steps g st guest a b c good listed = record { quiet = refl; after = others_behind g (a ∷ b ∷ []) st; left = refl; good = behind-good g (a ∷ b ∷ []) st good; also = record { tail = listed.tail; stores = listed.stores } }

-- the fourth submits: a list that starts, one that is pending behind it, or one that is dropped
abbrev submitted_stage : Stage → Stage
submitted_stage idle = waits false
submitted_stage (waits more) = waits true
submitted_stage (works more job) = works true job

abbrev three : Bool → List ℕ
three g = 0 ∷ 0 ∷ descriptor_of_guest g / 2 ^ 32 ∷ []

-- the engine behind the fourth write, and the device that the events are given to
abbrev submitted_state : Bool → State → Stage → State
submitted_state g st stage =
    let held = record st { stage = stage } in
    record st { others = put (put st.others 1 (engine_of g (three g) held)) 1 (engine_of g [] held); stage = submitted_stage stage }

submitted-good : (g : Bool) (st : State) (stage : Stage) → IsGood g (record st { stage = stage }) → IsListed st → IsGood g (submitted_state g st stage)
submitted-good g st idle good listed = record { holds = good.holds; index = good.index; ready = record { tail = listed.tail; stores = listed.stores } }
submitted-good g st (waits more) good listed = record { holds = good.holds; index = good.index; ready = record { tail = listed.tail; stores = listed.stores } }
submitted-good g st (works more job) good listed = record { holds = good.holds; index = good.index; ready = (record { tail = listed.tail; stores = listed.stores }, good.ready.1, good.ready.2) }

abbrev fourth_written : Bool → State → Stage → Written
fourth_written g st stage = value_written (device_of g (three g) (record st { stage = stage })) places.Registers Four 0x22230 (descriptor_of_guest g % 2 ^ 32)

fourth-given : (g : Bool) (st : State) (stage : Stage) → IsGood g (submitted_state g st stage) → Given g [] (fourth_written g st stage)
unfolding row_at
fourth-given true st idle good = events-given true [] (idle_to_active ∷ []) (submitted_state true st idle) good
fourth-given true st (waits true) good = events-given true [] [] (submitted_state true st (waits true)) good
fourth-given true st (waits false) good = events-given true [] [] (submitted_state true st (waits false)) good
fourth-given true st (works true job) good = events-given true [] [] (submitted_state true st (works true job)) good
fourth-given true st (works false job) good = events-given true [] [] (submitted_state true st (works false job)) good
fourth-given false st idle good = events-given false [] (idle_to_active ∷ []) (submitted_state false st idle) good
fourth-given false st (waits true) good = events-given false [] [] (submitted_state false st (waits true)) good
fourth-given false st (waits false) good = events-given false [] [] (submitted_state false st (waits false)) good
fourth-given false st (works true job) good = events-given false [] [] (submitted_state false st (works true job)) good
fourth-given false st (works false job) good = events-given false [] [] (submitted_state false st (works false job)) good

pub fourth-steps : (g : Bool) (st : State) (guest : GuestId) → IsGood g st → IsListed st → Steps g (three g) [] Anything st (Write guest places.Registers Four 0x22230 (descriptor_of_guest g % 2 ^ 32))
fourth-steps g st guest good listed =
    let given = fourth-given g st st.stage (submitted-good g st st.stage good listed) in
    record { quiet = given.quiet; after = given.after; left = given.left; good = given.good; also = tt }
