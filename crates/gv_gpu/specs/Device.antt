-- The shared device: all that it holds, and what each call makes of it.
use Rattle.std.specs.Prelude.{ℕ, ◌+◌, ◌-◌, ◌^◌, min, max, List, [], Option, None, Some, slice_set, ◌≡◌}
use Rattle.gv_types.specs.Maps.{put}
use Rattle.gv_types.specs.declared.ids.Label.{Label}
use Rattle.gv_types.specs.Memory.{zero_words}
use Rattle.gv_ctx.specs.declared.saved.Saved.{Saved}

-- A loaded context: the descriptor that it was submitted with, the guest that it belongs to, the
-- place of its next command, and its ring and root.
pub record Loaded : Type 0 where
  pub descriptor : ℕ
  pub owner : ℕ
  pub place : Saved
  pub tail : ℕ
  pub ring_start : ℕ
  pub root : ℕ

-- the place of a loaded context, if there is one
abbrev pub place_in : Option Loaded → Option Saved
place_in None = None
place_in (Some l) = Some l.place

-- a command that ran: where, for whom, and its dwords, without the addresses of copied batches
pub record JournalEntry : Type 0 where
  pub engine : ℕ
  pub owner : ℕ
  pub shape : List ℕ

-- Pages go by their numbers, engines by 0 to 3. A page that isn't live has no label and no words.
pub record Device : Type 0 where
  pub label : ℕ → Option Label
  pub words : ℕ → List ℕ
  pub live : ℕ
  pub global : ℕ → ℕ
  pub general : ℕ → ℕ → ℕ
  pub loaded : ℕ → Option Loaded
  pub journal : List JournalEntry
  pub strays : ℕ
  pub pokes : ℕ
  pub spare : ℕ
  pub faults : ℕ

-- a device without pages, with room for so many journal entries
abbrev pub empty_device : ℕ → Device
empty_device spare = record {
  label = λ _. None;
  words = λ _. [];
  live = 0;
  global = λ _. 0;
  general = λ _ _. 0;
  loaded = λ _. None;
  journal = [];
  strays = 0;
  pokes = 0;
  spare = spare;
  faults = 0;
}

abbrev pub IsEmpty : Device → Type 0
IsEmpty d = d ≡ empty_device d.spare

-- one more, where the count doesn't stand at its type's end
abbrev pub counted : ℕ → ℕ
counted n = max n (min (n + 1) (2 ^ 64 - 1))

-- a zero page with the label
abbrev pub added : Device → ℕ → Label → Device
added d page label = record d { label = put d.label page (Some label); words = put d.words page zero_words; live = d.live + 1 }

abbrev pub released : Device → ℕ → Device
released d page = record d { label = put d.label page None; words = put d.words page []; live = d.live - 1 }

abbrev pub poked : Device → ℕ → ℕ → ℕ → Device
poked d page index value = record d { words = put d.words page (slice_set (d.words page) index value); pokes = counted d.pokes }

-- one entry of the global table
abbrev pub with_global : Device → ℕ → ℕ → Device
with_global d index entry = record d { global = put d.global index entry }

-- a word of a page, as an engine writes it
abbrev pub with_page_word : Device → ℕ → ℕ → ℕ → Device
with_page_word d page index value = record d { words = put d.words page (slice_set (d.words page) index value) }

-- general register n of an engine
abbrev pub with_engine_general : Device → ℕ → ℕ → ℕ → Device
with_engine_general d engine n value = record d { general = put d.general engine (put (d.general engine) n value) }

-- the context that is loaded on an engine, or none
abbrev pub with_loaded : Device → ℕ → Option Loaded → Device
with_loaded d engine context = record d { loaded = put d.loaded engine context }

abbrev pub with_spare : Device → ℕ → Device
with_spare d n = record d { spare = n }

abbrev pub with_faults : Device → ℕ → Device
with_faults d n = record d { faults = n }
