-- The states of a guest's device in the course of a number's script.
use Rattle.std.proofs.Common.{◌≡◌, ℕ, zero, suc, ◌-◌, ◌/◌, ◌^◌, ◌≤◌, Bool, true, false, ◌||◌, List, [], ◌∷◌, cond, length, refl, ap, ◌∙◌, eqb, Option, None, Some}
use Rattle.std.specs.List.{list_any, filter, range_with_len}
use Rattle.gv_types.specs.Maps.{put}
use Rattle.gv_types.specs.Memory.{Memory}
use Rattle.gv_types.specs.declared.event.Event.{Event}
use Rattle.gv_csb.specs.Slots.{Execlists}
use Rattle.gv_entry.specs.Tables.{any_entry, is_bad_entry, tables_named, live_below, has_bad_entry, is_guarded}
use Rattle.gv_fetch.specs.Items.{Items, none, command}
use Rattle.gv_fetch.specs.Left.{begun}
use Rattle.gv_irq.specs.Irq.{Interrupts}
use Rattle.gv_regs.specs.Registers.{reset_registers, with_register}
use Rattle.gv_private.specs.Device.{Engine, PrivateDevice, Working}
use Rattle.gv_private.specs.Inputs.{answer}
use Rattle.gv_calm.proofs.Memories.{Holds, Words, none-bad, guarded-tables}
use Rattle.gv_calm.proofs.Rings.{AreStore, guest_entries, guest_ranges, start_of, store_words}

-- ---- the engine

-- what is left of an element: nothing, or the store of a value at an address
pub data Job : Type 0 where
  nothing : Job
  store : ℕ → ℕ → Job

-- No list; a list whose element isn't loaded; and one whose element is at work. A Bool says whether another one is
-- pending.
pub data Stage : Type 0 where
  idle : Stage
  waits : Bool → Stage
  works : Bool → Job → Stage

-- a guest's number, and the descriptor of its context
abbrev pub number_of : Bool → ℕ
number_of g = cond g 1 0

abbrev pub descriptor_of_guest : Bool → ℕ
descriptor_of_guest g = cond g 0x600010119 0x500000119

abbrev pub list_if : Bool → Bool → List ℕ
list_if g true = descriptor_of_guest g ∷ []
list_if g false = []

abbrev pub running_in : Bool → Stage → List ℕ
running_in g idle = []
running_in g (waits more) = descriptor_of_guest g ∷ []
running_in g (works more job) = descriptor_of_guest g ∷ []

abbrev pub pending_in : Bool → Stage → List ℕ
pending_in g idle = []
pending_in g (waits more) = list_if g more
pending_in g (works more job) = list_if g more

abbrev pub items_in : Job → Items
items_in nothing = none
items_in (store at value) = command (store_words at value) none

abbrev pub element_in : Stage → Option Working
element_in idle = None
element_in (waits more) = None
element_in (works more job) = Some (record { root = 8; tail = 0x10; left = begun (items_in job) })

-- ---- the device

pub record State : Type 0 where
  pub memory : Memory
  pub interrupts : Interrupts
  pub rooted : Bool
  pub others : ℕ → Engine
  pub general : ℕ → ℕ
  pub pairs : List (ℕ × ℕ)
  pub write : ℕ
  pub read : ℕ
  pub stage : Stage
  pub words : Words

abbrev pub roots_of : Bool → List ℕ
roots_of true = 8 ∷ []
roots_of false = []

abbrev pub slots_of : Bool → State → Execlists
slots_of g st = record { running = running_in g st.stage; pending = pending_in g st.stage; pairs = st.pairs; write = st.write; read = st.read }

abbrev pub engine_of : Bool → List ℕ → State → Engine
engine_of g writes st = record { general = st.general; writes = writes; slots = slots_of g st; element = element_in st.stage }

abbrev pub guest_registers : Bool → ℕ → ℕ
guest_registers g = with_register reset_registers 0x22080 (cond g 0x13000 0x3000)

-- with these dwords of a submission that is half made
abbrev pub device_of : Bool → List ℕ → State → PrivateDevice
device_of g writes st = record {
  number = number_of g;
  ranges = guest_ranges g;
  memory = st.memory;
  entries = guest_entries;
  registers = guest_registers g;
  interrupts = st.interrupts;
  roots = roots_of st.rooted;
  failsafe = false;
  engines = put st.others 1 (engine_of g writes st);
}

-- ---- what is known of it

-- the context can be loaded
pub record IsListed (st : State) : Type 0 where
  pub tail : st.words.tail ≡ true
  pub stores : AreStore st.words.x st.words.y

abbrev pub IsJob : Job → Type 0
IsJob nothing = Unit {0}
IsJob (store at value) = at / 2 ^ 12 ≡ 1

abbrev pub IsReady : Stage → State → Type 0
IsReady idle st = Unit {0}
IsReady (waits more) st = IsListed st
IsReady (works more job) st = IsListed st × (st.rooted ≡ true) × IsJob job

pub record IsGood (g : Bool) (st : State) : Type 0 where
  pub holds : Holds (start_of g) st.memory st.words
  pub index : st.write ≤ 7
  pub ready : IsReady st.stage st

-- An event tells no reason, and leaves another such state.
pub record Steps (g : Bool) (writes after_writes : List ℕ) (Also : State → Type 0) (st : State) (one : Event) : Type 0 where
  pub quiet : (answer (device_of g writes st) one).reply.failsafe ≡ None
  pub after : State
  pub left : (answer (device_of g writes st) one).left ≡ device_of g after_writes after
  pub good : IsGood g after
  pub also : Also after

-- ---- tables

filter-never : (xs : List ℕ) → filter (λ (x : ℕ). false) xs ≡ []
filter-never [] = refl
filter-never (x ∷ xs) = filter-never xs

live-none : (m : Memory) (depth : ℕ) → live_below m [] depth ≡ []
live-none m zero = refl
live-none m (suc depth) = ap (tables_named m (4 - depth)) (live-none m depth) ∙ filter-never (range_with_len 0 (length m))

pub bad-none : (m : Memory) → has_bad_entry m [] ≡ false
bad-none m = λ i.
    list_any (any_entry m 4 is_bad_entry) (live-none m 0 i)
    || (list_any (any_entry m 3 is_bad_entry) (live-none m 1 i)
    || (list_any (any_entry m 2 is_bad_entry) (live-none m 2 i)
    || (list_any (any_entry m 1 is_bad_entry) (live-none m 3 i) || false)))

guarded-none : (m : Memory) (frame : ℕ) → is_guarded m [] frame ≡ false
guarded-none m frame = λ i.
    list_any (λ table. eqb table frame) (live-none m 0 i)
    || (list_any (λ table. eqb table frame) (live-none m 1 i)
    || (list_any (λ table. eqb table frame) (live-none m 2 i)
    || (list_any (λ table. eqb table frame) (live-none m 3 i) || false)))

pub never-bad : (start : ℕ) (rooted : Bool) (m : Memory) (s : Words) → Holds start m s → has_bad_entry m (roots_of rooted) ≡ false
never-bad start true m s h = none-bad start m s h
never-bad start false m s h = bad-none m

-- no table is among the frames of the image, the ring and the status page
pub image-free : (start : ℕ) (rooted : Bool) (m : Memory) (s : Words) → Holds start m s → is_guarded m (roots_of rooted) 1 ≡ false
image-free start true m s h = guarded-tables start m s h 1
image-free start false m s h = guarded-none m 1

pub ring-free : (start : ℕ) (rooted : Bool) (m : Memory) (s : Words) → Holds start m s → is_guarded m (roots_of rooted) 2 ≡ false
ring-free start true m s h = guarded-tables start m s h 2
ring-free start false m s h = guarded-none m 2

pub status-free : (start : ℕ) (rooted : Bool) (m : Memory) (s : Words) → Holds start m s → is_guarded m (roots_of rooted) 3 ≡ false
status-free start true m s h = guarded-tables start m s h 3
status-free start false m s h = guarded-none m 3
