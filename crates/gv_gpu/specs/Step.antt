-- One step of an engine of the shared device.
use Rattle.std.specs.Prelude.{ℕ, suc, zero, ◌+◌, ◌-◌, ◌*◌, ◌/◌, ◌%◌, ◌^◌, ◌==◌, ◌||◌, Bool, true, false, not, List, [], ◌∷◌, ◌++◌, min, if◌then◌else◌, Option, None, Some, Result, Ok, Err}
use Rattle.gv_types.specs.Memory.{half_of, with_half}
use Rattle.gv_ctx.specs.declared.saved.Batch.{Batch}
use Rattle.gv_ctx.specs.declared.saved.Saved.{Saved}
use Rattle.gv_cmd.specs.Table.{length_of, kind_of, read_length}
use Rattle.gv_cmd.specs.Allowed.{is_allowed}
use Rattle.gv_cmd.specs.Command.{decoded, shape_of}
use Rattle.gv_cmd.specs.Effect.{Operations, Effect, effect, colour_byte}
use Rattle.gv_cmd.specs.declared.command.Unlisted.{Unlisted as UnlistedError}
use Rattle.gv_cmd.specs.declared.kind.Kind.{Kind}
use Rattle.gv_cmd.specs.declared.kind.Kind.TheVariants.{BatchEnd, BatchStart}
use Rattle.gv_cmd.specs.declared.stands.Stands.{Stands}
use Rattle.gv_cmd.specs.declared.stands.Stands.TheVariants.{Ring, Privileged, Live, Second}
use Rattle.gv_gpu.specs.Device.{Device, Loaded, counted, with_engine_general, with_loaded}
use Rattle.gv_gpu.specs.Physical.{operand_at, operand_stored, dword_at, dword_strays, byte_at, byte_stored, read_strays, write_strays}
use Rattle.gv_gpu.specs.declared.step.Step.{Step}
use Rattle.gv_gpu.specs.declared.step.Step.TheVariants.{Ran, Waits, Ended, Unlisted, Idle}

-- What a step works on: the device, the engine and the context that is loaded there, and whether an
-- access has strayed so far.
pub record Stepping : Type 0 where
  pub device : Device
  pub engine : ℕ
  pub context : Loaded
  pub strayed : Bool

-- ---- the space

-- bytes in order: the first n of them, of which byte k is stored at an address of k more
unfoldable pub bytes_stored : Stepping → ℕ → (ℕ → ℕ) → ℕ → Stepping
bytes_stored s at bytes zero = s
bytes_stored s at bytes (suc n) =
    let t = bytes_stored s at bytes n in
    record t {
      device = byte_stored t.device t.context.root false (at + n) (bytes n);
      strayed = t.strayed || write_strays t.device t.context false (at + n);
    }

-- whether one of the first n bytes from an address is read astray
unfoldable pub bytes_stray : Device → Loaded → ℕ → ℕ → Bool
bytes_stray d l at zero = false
bytes_stray d l at (suc n) = bytes_stray d l at n || read_strays d l false (at + n)

-- A row is read whole before it is written. Its addresses count modulo 2^48.
abbrev pub row_moved : Stepping → ℕ → ℕ → ℕ → Stepping
row_moved s to from n =
    bytes_stored (record s { strayed = s.strayed || bytes_stray s.device s.context from n }) to (λ k. byte_at s.device s.context.root false (from + k)) n

-- the space of the loaded context: its root's per-process memory, the global memory, and the
-- engine's general registers, of which dword n is a half of register n / 2
abbrev pub operations : Operations Stepping
operations = record {
  load_gives = λ s global at. operand_at s.device s.context.root global at;
  load_leaves = λ s global at. record s { strayed = s.strayed || read_strays s.device s.context global at };
  stored = λ s global at value. record s {
    device = operand_stored s.device s.context.root global at value;
    strayed = s.strayed || write_strays s.device s.context global at;
  };
  row_copied = λ s to from n. row_moved s (to % 2 ^ 48) (from % 2 ^ 48) n;
  row_filled = λ s to n colour depth. bytes_stored s (to % 2 ^ 48) (colour_byte colour depth) n;
  general_gives = λ s n. half_of (s.device.general s.engine (n / 2)) (4 * n);
  general_set = λ s n value. record s { device = with_engine_general s.device s.engine (n / 2) (with_half (s.device.general s.engine (n / 2)) (4 * n) value) };
}

-- ---- places

-- Where the next command stands: in the innermost batch, or else in the ring.
abbrev pub stands_at_by : Option Batch → Option Batch → Stands
stands_at_by first (Some second) = Second
stands_at_by (Some first) None = if first.live then Live else Privileged
stands_at_by None None = Ring

abbrev pub stands_at : Saved → Stands
stands_at place = stands_at_by place.first place.second

-- Where it is read: in the global memory but for a live batch, and at which address.
abbrev pub is_global_by : Option Batch → Option Batch → Bool
is_global_by first (Some second) = not second.live
is_global_by (Some first) None = not first.live
is_global_by None None = true

-- the ring and the fetched batches, which are read through the global table, are privileged
abbrev pub runs_privileged : Saved → Bool
runs_privileged place = is_global_by place.first place.second

-- A live batch's address counts modulo 2^48. The global addresses from 2^32 on are all absent alike.
abbrev pub batch_address : Batch → ℕ
batch_address batch = if batch.live then batch.at % 2 ^ 48 else min batch.at (2 ^ 32)

abbrev pub active_head_by : ℕ → Option Batch → Option Batch → ℕ
active_head_by ring first (Some second) = batch_address second
active_head_by ring (Some first) None = batch_address first
active_head_by ring None None = ring

abbrev pub active_head : Loaded → ℕ
active_head l = active_head_by (l.ring_start + l.place.ring) l.place.first l.place.second

-- A place moves past so many dwords. The ring's offset counts modulo 2^32, a batch's address modulo 2^48.
abbrev pub batch_advanced : Batch → ℕ → Batch
batch_advanced batch dwords = record batch { at = (batch.at + 4 * dwords) % 2 ^ 48 }

abbrev pub advanced_by : Saved → ℕ → Option Batch → Option Batch → Saved
advanced_by place dwords first (Some second) = record place { second = Some (batch_advanced second dwords) }
advanced_by place dwords (Some first) None = record place { first = Some (batch_advanced first dwords) }
advanced_by place dwords None None = record place { ring = (place.ring + 4 * dwords) % 2 ^ 32 }

abbrev pub advanced : Saved → ℕ → Saved
advanced place dwords = advanced_by place dwords place.first place.second

-- the innermost batch is left
abbrev pub returned_by : Saved → Option Batch → Saved
returned_by place (Some second) = record place { second = None }
returned_by place None = record place { first = None }

abbrev pub returned : Saved → Saved
returned place = returned_by place place.second

-- A batch of the first or the second level is entered. Where a live batch of the first level starts
-- another one of that level it jumps: its own address is replaced.
abbrev pub branched : Saved → Bool → Batch → Saved
branched place true batch = record place { second = Some batch }
branched place false batch = record place { first = Some batch }

-- the place after a command that ran, from the one behind it
abbrev pub next_place_by : Saved → Option Kind → Saved
next_place_by place (Some BatchEnd) = returned place
next_place_by place (Some (BatchStart live second at)) = branched place second (record { at = at; live = live })
next_place_by place kind = place

abbrev pub next_place : Saved → List ℕ → ℕ → Saved
next_place place ws dwords = next_place_by (advanced place dwords) (kind_of ws)

-- ---- fetching

-- The front command's dwords as they are read: the header alone, and where a row of the command table
-- has such a header also the other dwords of its length; and whether a read strayed.
pub record HeadRead : Type 0 where
  pub words : List ℕ
  pub strayed : Bool

unfoldable pub dwords_stray : Device → Loaded → Bool → ℕ → ℕ → Bool
dwords_stray d l global at zero = false
dwords_stray d l global at (suc n) = dwords_stray d l global at n || dword_strays d l global (at + 4 * n)

-- so many dwords from an address
unfoldable pub dwords_from : Device → ℕ → Bool → ℕ → ℕ → List ℕ
dwords_from d root global at zero = []
dwords_from d root global at (suc n) = dwords_from d root global at n ++ dword_at d root global (at + 4 * n) ∷ []

abbrev pub head_read_from : Device → Loaded → Bool → ℕ → HeadRead
head_read_from d l global at =
    let n = read_length (length_of (dword_at d l.root global at)) in
    record { words = dwords_from d l.root global at n; strayed = dwords_stray d l global at n }

unfoldable pub head_read : Device → Loaded → HeadRead
head_read d l = head_read_from d l (runs_privileged l.place) (active_head l)

-- ---- the step

-- what a step leaves of the device, and what it answers
pub record Stepped : Type 0 where
  pub after : Device
  pub answer : Step

-- a step that has one stray or more is counted once
abbrev pub settled : Stepping → Device
settled s = record (s.device) { strays = if s.strayed then counted s.device.strays else s.device.strays }

-- A command that ran: the place moves past it, and the journal gets it.
abbrev pub retired : Device → ℕ → Loaded → List ℕ → ℕ → Device
retired d engine l ws dwords = record (with_loaded d engine (Some (record l { place = next_place l.place ws dwords }))) {
  journal = d.journal ++ record { engine = engine; owner = l.owner; shape = shape_of ws } ∷ [];
  spare = d.spare - 1;
}

abbrev pub stepped_by : ℕ → Loaded → List ℕ → ℕ → Stepping → Option ℕ → Stepped
stepped_by engine l ws dwords s None = record { after = settled s; answer = Waits }
stepped_by engine l ws dwords s (Some raise) = record { after = retired (settled s) engine l ws dwords; answer = Ran ws raise }

abbrev pub stepped_with : ℕ → Loaded → List ℕ → ℕ → Effect Stepping → Stepped
stepped_with engine l ws dwords e = stepped_by engine l ws dwords e.after e.raise

abbrev pub command_step : Stepping → Result (List ℕ × ℕ) UnlistedError → Stepped
command_step s (Err e) = record { after = settled s; answer = Unlisted }
command_step s (Ok (ws, dwords)) =
    if is_allowed ws (stands_at s.context.place) s.engine
    then stepped_with s.engine s.context ws dwords (effect operations ws s.engine (runs_privileged s.context.place) s)
    else record { after = settled s; answer = Unlisted }

unfoldable pub front_step : Device → ℕ → Loaded → Stepped
front_step d engine l =
    let f = head_read d l in
    command_step (record { device = d; engine = engine; context = l; strayed = f.strayed }) (decoded f.words)

-- a context has ended where it is in no batch and its ring is at the tail
abbrev pub has_ended : Loaded → Bool
has_ended l = ended_by l.place.first l.place.second
  where
    ended_by : Option Batch → Option Batch → Bool
    ended_by None None = l.place.ring == l.tail
    ended_by first second = false

abbrev pub step_with : Device → ℕ → Option Loaded → Stepped
step_with d engine None = record { after = d; answer = Idle }
step_with d engine (Some l) =
    if has_ended l then record { after = with_loaded d engine None; answer = Ended } else front_step d engine l

unfoldable pub physical_step : Device → ℕ → Stepped
physical_step d engine = step_with d engine (d.loaded engine)
