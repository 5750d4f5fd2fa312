-- The memory writes of a round tell no reason.
use Rattle.std.proofs.Common.{◌≡◌, ℕ, zero, suc, ◌+◌, ◌*◌, ◌/◌, ◌%◌, ◌<◌, Bool, List, [], cond, length, set, refl, ap, ◌∙◌, arith, ltb, inr}
use Rattle.std.proofs.lemmas.Bool.{lt-ltb}
use Rattle.gv_types.specs.Memory.{Memory, memory_write, with_value, with_word, word_of, with_half}
use Rattle.gv_types.specs.declared.event.Event.TheVariants.{Write}
use Rattle.gv_types.specs.declared.event.Place.TheVariants as places
use Rattle.gv_types.specs.declared.event.Width.{Width}
use Rattle.gv_types.specs.declared.event.Width.TheVariants.{Four, Eight}
use Rattle.gv_types.specs.declared.ids.GuestId.{GuestId}
use Rattle.gv_types.specs.declared.reply.Reason.TheVariants.{Entry}
use Rattle.gv_private.specs.Access.{memory_written}
use Rattle.gv_private.specs.Device.{Written, quietly, fails}
use Rattle.gv_private.specs.Roots.{unless_bad}
use Rattle.gv_calm.proofs.Memories.{Holds, Words, Leaf, twelve, thirteen, fourteen, fifteen, entry_in, elsewhere-holds, page-written, page_words}
use Rattle.gv_calm.proofs.Rings.{start_of}
use Rattle.gv_calm.proofs.States.{State, Stage, idle, waits, works, IsGood, IsListed, IsReady, Steps, device_of, never-bad}

-- ---- a write in memory

inside : (m : Memory) (width : Width) (at value : ℕ) → length m ≡ 32 → at < 131072 → memory_write m width at value ≡ with_value m width at value
inside m width at value frames low = (λ i. cond (ltb at (frames i * 4096)) (with_value m width at value) m) ∙ (λ i. cond (lt-ltb at 131072 low i) (with_value m width at value) m)

-- with this memory, and these words in it
abbrev pub remembers : State → Memory → Words → State
remembers st m s = record st { memory = m; words = s }

ready-words : (st : State) (m : Memory) (s : Words) (stage : Stage) → (IsListed st → IsListed (remembers st m s)) → IsReady stage st → IsReady stage (remembers st m s)
ready-words st m s idle listed ready = tt
ready-words st m s (waits more) listed ready = listed ready
ready-words st m s (works more job) listed ready = (listed ready.0, ready.1, ready.2)

pub memory-steps : (g : Bool) (writes : List ℕ) (Also : State → Type 0) (st : State) (guest : GuestId) (width : Width) (at value : ℕ) (s : Words)
    → IsGood g st → at < 131072 → Holds (start_of g) (with_value st.memory width at value) s → (IsListed st → IsListed (remembers st (with_value st.memory width at value) s)) → Also (remembers st (with_value st.memory width at value) s)
    → Steps g writes writes Also st (Write guest places.Memory width at value)
memory-steps g writes Also st guest width at value s good low holds listed also =
    let m = with_value st.memory width at value in
    let after = remembers st m s in
    let whole : memory_written (device_of g writes st) width at value ≡ quietly (device_of g writes after) =
    (λ i. unless_bad (record (device_of g writes st) { memory = inside st.memory width at value good.holds.frames low i }))
    ∙ (λ i. cond (never-bad (start_of g) st.rooted m s holds i) (fails (device_of g writes after) Entry) (quietly (device_of g writes after))) in
    record {
      quiet = ap (λ (x : Written). x.reason) whole;
      after = after;
      left = ap (λ (x : Written). x.device) whole;
      good = record { holds = holds; index = good.index; ready = ready-words st m s st.stage listed good.ready };
      also = also;
    }

-- ---- data

-- a dword of frame 13
data-holds : (start : ℕ) (m : Memory) (s : Words) (k value : ℕ) → Holds start m s → Holds start (with_value m Four (0xD000 + 4 * (k % 1024)) value) s
data-holds start m s k value h =
    let at = 0xD000 + 4 * (k % 1024) in
    elsewhere-holds start m s (at / 8) (with_half (word_of m (at / 8)) at value) h (inr (omega arith))

abbrev pub Anything : State → Type 0
Anything st = Unit {0}

pub data-steps : (g : Bool) (st : State) (guest : GuestId) (k value : ℕ) → IsGood g st → Steps g [] [] Anything st (Write guest places.Memory Four (0xD000 + 4 * (k % 1024)) value)
data-steps g st guest k value good =
    memory-steps g [] Anything st guest Four (0xD000 + 4 * (k % 1024)) value st.words good (omega arith) (data-holds (start_of g) st.memory st.words k value good.holds) (λ listed. record { tail = listed.tail; stores = listed.stores }) tt

-- ---- the table of pages

-- the leaf of an entry
abbrev leaf_of : ℕ → Leaf
leaf_of zero = twelve
leaf_of (suc zero) = thirteen
leaf_of (suc (suc zero)) = fourteen
leaf_of (suc (suc (suc n))) = fifteen

leaf-entry : (n : ℕ) → n < 4 → 0x1000 * (12 + n) + 3 ≡ entry_in (leaf_of n)
leaf-entry zero low = refl
leaf-entry (suc zero) low = refl
leaf-entry (suc (suc zero)) low = refl
leaf-entry (suc (suc (suc zero))) low = refl
leaf-entry (suc (suc (suc (suc n)))) low = absurd (omega (arith, low))

abbrev mapped : Words → ℕ → Leaf → Words
mapped s zero leaf = record s { a = leaf }
mapped s (suc zero) leaf = record s { b = leaf }
mapped s (suc (suc n)) leaf = record s { c = leaf }

first_set : (a b c d : ℕ) → set (page_words a b c) 0 d ≡ page_words d b c
unfolding page_words
first_set a b c d = refl

second_set : (a b c d : ℕ) → set (page_words a b c) 1 d ≡ page_words a d c
unfolding page_words
second_set a b c d = refl

third_set : (a b c d : ℕ) → set (page_words a b c) 2 d ≡ page_words a b d
unfolding page_words
third_set a b c d = refl

map-holds : (start : ℕ) (m : Memory) (s : Words) (k n value : ℕ) (leaf : Leaf) → Holds start m s → k < 3 → n ≡ 0x1600 + k → value ≡ entry_in leaf → Holds start (with_word m n value) (mapped s k leaf)
map-holds start m s zero n value leaf h low at is =
    page-written start m s n value leaf s.b s.c h (omega (arith, at)) ((λ i. set (page_words (entry_in s.a) (entry_in s.b) (entry_in s.c)) (at i % 512) (is i)) ∙ first_set (entry_in s.a) (entry_in s.b) (entry_in s.c) (entry_in leaf))
map-holds start m s (suc zero) n value leaf h low at is =
    page-written start m s n value s.a leaf s.c h (omega (arith, at)) ((λ i. set (page_words (entry_in s.a) (entry_in s.b) (entry_in s.c)) (at i % 512) (is i)) ∙ second_set (entry_in s.a) (entry_in s.b) (entry_in s.c) (entry_in leaf))
map-holds start m s (suc (suc zero)) n value leaf h low at is =
    page-written start m s n value s.a s.b leaf h (omega (arith, at)) ((λ i. set (page_words (entry_in s.a) (entry_in s.b) (entry_in s.c)) (at i % 512) (is i)) ∙ third_set (entry_in s.a) (entry_in s.b) (entry_in s.c) (entry_in leaf))
map-holds start m s (suc (suc (suc k))) n value leaf h low at is = absurd (omega (arith, low))

mapped-listed : (st : State) (m : Memory) (k : ℕ) (leaf : Leaf) → IsListed st → IsListed (remembers st m (mapped st.words k leaf))
mapped-listed st m zero leaf listed = record { tail = listed.tail; stores = listed.stores }
mapped-listed st m (suc zero) leaf listed = record { tail = listed.tail; stores = listed.stores }
mapped-listed st m (suc (suc k)) leaf listed = record { tail = listed.tail; stores = listed.stores }

pub map-steps : (g : Bool) (st : State) (guest : GuestId) (v : ℕ) → IsGood g st → Steps g [] [] Anything st (Write guest places.Memory Eight (0xB000 + 8 * (v % 3)) (0x1000 * (12 + v % 4) + 3))
map-steps g st guest v good =
    let at = 0xB000 + 8 * (v % 3) in
    let value = 0x1000 * (12 + v % 4) + 3 in
    memory-steps g [] Anything st guest Eight at value (mapped st.words (v % 3) (leaf_of (v % 4))) good (omega arith)
    (map-holds (start_of g) st.memory st.words (v % 3) (at / 8) value (leaf_of (v % 4)) good.holds (omega arith) (omega arith) (leaf-entry (v % 4) (omega arith)))
    (mapped-listed st (with_value st.memory Eight at value) (v % 3) (leaf_of (v % 4))) tt
