-- What a device in memory stands for.
use Rattle.std.specs.Prelude.{ℕ, ◌+◌, ◌*◌, nat_lt, if◌then◌else◌, List, Option, None, Some, slice_index, slice_index_or, map, replicate}
use Rattle.gv_gpu.specs.Device.{Device, Loaded}
use Rattle.gv_gpu.specs.Device.{JournalEntry as Ran}
use Rattle.gv_engine.specs.Pages.{Held}
use Rattle.gv_engine.specs.declared.context.Context.{Context}
use Rattle.gv_engine.specs.declared.entry.Entry.{Entry}

abbrev pub loaded_of : Context → Loaded
loaded_of context = record {
  descriptor = context.descriptor;
  owner = context.owner.0;
  place = context.place;
  tail = context.tail;
  ring_start = context.ring_start;
  root = context.root;
}

abbrev pub loaded_by : Option Context → Option Loaded
loaded_by None = None
loaded_by (Some context) = Some (loaded_of context)

abbrev pub ran_of : Entry → Ran
ran_of entry = record { engine = entry.engine.0; owner = entry.guest.0; shape = entry.shape }

-- all registers at first
unfoldable pub zero_registers : List ℕ
zero_registers = replicate 64 0

-- Registers are kept sixteen for each engine.
abbrev pub register_of : List ℕ → ℕ → ℕ → ℕ
register_of general engine n = if nat_lt n 16 then slice_index general (16 * engine + n) else 0

-- what is kept: pages by their numbers, the entries of the global table, the engines' general registers
-- and loaded contexts, the journal, and counts
abbrev pub state_of : Held → List ℕ → List ℕ → List (Option Context) → List Entry → ℕ → ℕ → ℕ → Device
state_of held entries general contexts journal strays pokes spare = record {
  label = held.label;
  words = held.words;
  live = held.live;
  global = λ index. slice_index entries index;
  general = register_of general;
  loaded = λ engine. loaded_by (slice_index_or contexts engine None);
  journal = map ran_of journal;
  strays = strays;
  pokes = pokes;
  spare = spare;
  faults = 0;
}
