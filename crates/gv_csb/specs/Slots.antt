-- Submission to one engine, and its context status buffer.
use Rattle.std.specs.Prelude.{ℕ, ◌+◌, ◌-◌, ◌*◌, ◌/◌, ◌%◌, ◌^◌, ◌<◌, ◌≤◌, ◌≡◌, ◌≢◌, Bool, true, false, not, ◌==◌, ◌&&◌, ◌||◌, if◌then◌else◌, List, [], ◌∷◌, length, take, replicate, slice_set, bit_and, bit_or, Option, Some, None}
use Rattle.std.specs.List.{AllByRecursion}
use Rattle.gv_types.specs.Bits.{has_lowest_bit}
use Rattle.gv_csb.specs.declared.status.Status.{Status}
use Rattle.gv_csb.specs.declared.slots.Submitted.{Submitted}
use Rattle.gv_csb.specs.declared.slots.Submitted.TheVariants.{Dropped, Accepted}
use Rattle.gv_csb.specs.Status.{idle_to_active, element_switch, active_to_idle}

-- An engine's two slots and its status ring. A list is that of its elements that aren't completed,
-- each a context descriptor; a slot without a list has none.
pub record Execlists : Type 0 where
  pub running : List ℕ
  pub pending : List ℕ
  pub pairs : List (ℕ × ℕ)  -- the six status pairs: event, then context number
  pub write : ℕ  -- the index of the newest pair, or 7 where there was none yet
  pub read : ℕ  -- the read pointer, three bits

-- after a reset
abbrev pub reset_execlists : Execlists
reset_execlists = record { running = []; pending = []; pairs = replicate 6 (0, 0); write = 7; read = 0 }

-- bit 0 of a descriptor, and the context's number in its high half
abbrev pub is_valid : ℕ → Bool
is_valid descriptor = has_lowest_bit descriptor

abbrev pub context_number : ℕ → ℕ
context_number descriptor = descriptor / 2 ^ 32

abbrev pub holds_list : List ℕ → Bool
holds_list [] = false
holds_list (element ∷ elements) = true

-- ---- submission

-- the list of two descriptors: the second is an element where it is valid
abbrev pub list_of : ℕ → ℕ → List ℕ
list_of first second = if is_valid second then first ∷ second ∷ [] else first ∷ []

-- both slots hold lists, or the first descriptor isn't valid
abbrev pub is_dropped : Execlists → ℕ → Bool
is_dropped s first = (holds_list s.running && holds_list s.pending) || not (is_valid first)

-- Else the list takes the running slot where that is empty, and the pending slot where it isn't.
abbrev pub submitted : Execlists → ℕ → ℕ → Execlists
submitted s first second =
    if is_dropped s first then s
    else (if holds_list s.running then record s { pending = list_of first second } else record s { running = list_of first second })

abbrev pub submission_answer : Execlists → ℕ → Submitted
submission_answer s first = if is_dropped s first then Dropped else Accepted (not (holds_list s.running))

-- ---- completion

-- The element at the front of the running list is gone. Where it was the last one, the pending list
-- becomes the running one.
abbrev pub completed_in : List ℕ → Execlists → Execlists
completed_in [] s = s
completed_in (element ∷ []) s = record s { running = s.pending; pending = [] }
completed_in (element ∷ next ∷ elements) s = record s { running = next ∷ elements }

abbrev pub completed : Execlists → Execlists
completed s = completed_in s.running s

-- the current element, where there is one
abbrev pub current_of : List ℕ → Option ℕ
current_of [] = None
current_of (element ∷ elements) = Some element

-- the event that a list begins, where there is one
abbrev pub begins : List ℕ → List Status
begins [] = []
begins (element ∷ elements) = idle_to_active ∷ []

-- The events of a completion, in their order: that of the current element, and where it was the last
-- one of its list, that the pending list begins.
abbrev pub completion_events : List ℕ → List ℕ → List Status
completion_events [] pending = []
completion_events (element ∷ []) pending = active_to_idle (context_number element) ∷ begins pending
completion_events (element ∷ next ∷ elements) pending = element_switch (context_number element) ∷ []

-- ---- the status ring

-- the pointer goes round the six pairs; from 7 it goes to the first
abbrev pub next_index : ℕ → ℕ
next_index write = if write == 7 || write == 5 then 0 else write + 1

abbrev pub pushed : Execlists → Status → Execlists
pushed s status = record s { write = next_index s.write; pairs = slice_set s.pairs (next_index s.write) (status.word, status.number) }

-- the status pointer register: the write pointer in bits 2..0, the read pointer in bits 10..8
abbrev pub pointer_of : Execlists → ℕ
pointer_of s = s.write + s.read * 2 ^ 8

-- the old bits, with those of the value where the mask has ones
abbrev pub pointer_masked : ℕ → ℕ → ℕ → ℕ
pointer_masked old value mask = bit_or (bit_and old (7 - mask)) (bit_and value mask)

-- A write changes those bits of the read pointer whose bit 16 places higher is set.
abbrev pub pointer_written : Execlists → ℕ → Execlists
pointer_written s value = record s { read = pointer_masked s.read (value / 2 ^ 8 % 8) (value / 2 ^ 24 % 8) }

-- ---- lists with their numbers

-- The elements of a list, filled up with 0 to two, and how many there are.
abbrev pub counted_list : List ℕ → List ℕ × ℕ
counted_list [] = (0 ∷ 0 ∷ [], 0)
counted_list (element ∷ []) = (element ∷ 0 ∷ [], 1)
counted_list (element ∷ next ∷ elements) = (element ∷ next ∷ [], 2)

-- the running list, or the pending one
abbrev pub list_in : Execlists → Bool → List ℕ
list_in s pending = if pending then s.pending else s.running

-- A list that is given by descriptors and a number, which is 2 at the most: so many of them, each valid.
pub record IsCountedList (given : List ℕ × ℕ) : Type 0 where
  pub few : given.1 ≤ 2
  pub valid : AllByRecursion (λ d. is_valid d ≡ true) (take given.1 given.0)

-- ---- what always holds

pub record IsWellFormed (s : Execlists) : Type 0 where
  pub running : length s.running ≤ 2
  pub pending : length s.pending ≤ 2
  pub behind : s.running ≡ [] → s.pending ≡ []
  pub valid : AllByRecursion (λ d. is_valid d ≡ true) s.running × AllByRecursion (λ d. is_valid d ≡ true) s.pending
  pub pairs : length s.pairs ≡ 6
  pub write : (s.write ≤ 7) × (s.write ≢ 6)
  pub read : s.read < 8
