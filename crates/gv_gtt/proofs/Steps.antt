-- A call of one of the parts, seen by memory and tables together.
use Rattle.std.proofs.Common.{◌≡◌, ℕ, ◌+◌, ◌-◌, ◌≤◌, Bool, List, Option, None, Some, length, get_or, refl, sym, ap, ◌∙◌, subst, arith}
use Rattle.std.proofs.lemmas.List.{length-set}
use Rattle.gv_types.specs.declared.ranges.Ranges.{Ranges}
use Rattle.gv_entry.specs.Global.{with_entry, slot_of, with_entry_at}
use Rattle.gv_gpu.specs.Change.{ChangesOnly}
use Rattle.gv_gpu.specs.Device.{Device}
use Rattle.gv_gpu.specs.Part.{Part, outside, entries_part, access_part, frames_part}
use Rattle.gv_gpu.proofs.Changes.{changes-widen, changes-none, changes-then}
use Rattle.gv_gpu.proofs.Guests.{entries-access, frames-access}
use Rattle.gv_guest.specs.Placed.{Placed, KeepsMemory, memory_in}
use Rattle.gv_guest.specs.declared.memory.Memory.{Memory}
use Rattle.gv_guest.proofs.Kept.{memory-entries}
use Rattle.gv_shape.specs.Counts.{leaves}
use Rattle.gv_shape.specs.Shadow.{Pages}
use Rattle.gv_shape.specs.Shadows.{KeepsPages}
use Rattle.gv_sppgtt.specs.Grown.{count_of}
use Rattle.gv_sggtt.specs.Mirror.{Mirrors}
use Rattle.gv_sggtt.specs.Pins.{table_pins, ChangesOwnPins, HasPins}
use Rattle.gv_sggtt.specs.Table.{Table, IsTable, table_written, table_guarding}
use Rattle.gv_sggtt.proofs.OwnPins.{own-changes-none, own-changes-then}
use Rattle.gv_sppgtt.specs.Holding.{Holds}
use Rattle.gv_sppgtt.specs.Serving.{Serves, ChangesTables}
use Rattle.gv_sppgtt.specs.State.{LiveFollows, own_part, pages_of as nodes_of, readings_of}
use Rattle.gv_sppgtt.specs.declared.tables.Tables.{Tables}
use Rattle.gv_sppgtt.proofs.Standing.{serving_tables_stay}
use Rattle.gv_gtt.specs.Changes.{Changes, ChangesTable}
use Rattle.gv_gtt.specs.Gtt.{both, gtt_part, memory_of, nodes_in}
use Rattle.gv_gtt.specs.Standing.{Stands, Serving}
use Rattle.gv_gtt.specs.declared.gtt.Gtt.{Gtt}
use Rattle.gv_gtt.proofs.Unguarded.{room-same}
use Rattle.gv_gtt.proofs.Parts.{outside-first, outside-second, pages-entries, entries-tables}
use Rattle.gv_gtt.proofs.Pins.{AreBoth, has-pins, is-pinned}
use Rattle.gv_gtt.proofs.Standing.{leaves-kept, mirrors-same}

-- the memory has the pins that the global table's calls need
pub stands-pins : (d : Device) (g : Gtt) → Stands d g → HasPins g.table g.memory.pins
stands-pins d g s = has-pins d g.memory.frames g.table g.tables g.memory.pins s.frames s.holds s.pins

-- ---- the global table

with-entry-length : (ranges : Ranges) (entries : List ℕ) (page value : ℕ) → length (with_entry ranges entries page value) ≡ length entries
with-entry-length ranges entries page value = by (slot_of ranges page)
  where
    by : (o : Option ℕ) → length (with_entry_at entries o value) ≡ length entries
    by None = refl
    by (Some slot) = length-set entries slot value

pub table-after-write : (t : Table) (page value : ℕ) → IsTable t → IsTable (table_written t page value)
table-after-write t page value is = record { parts = is.parts; some = is.some; few = is.few; whole = with-entry-length t.ranges t.entries page value ∙ is.whole; flags = is.flags }

pub table-after-guard : (t : Table) (frame : ℕ) (flag : Bool) → IsTable t → IsTable (table_guarding t frame flag)
table-after-guard t frame flag is = record { parts = is.parts; some = is.some; few = is.few; whole = is.whole; flags = length-set t.guarded frame flag ∙ is.flags }

-- Pins move with the table's own.
pins-moved : (d : Device) (placed : Placed) (t : Tables) (before now : Table) (pins after : List ℕ) → length placed.pages ≡ before.frames → before.frames ≡ now.frames → length pins ≡ length placed.pages
    → AreBoth d placed before t pins → ChangesOwnPins before now pins after → AreBoth d placed now t after
pins-moved d placed t before now pins after count same long are changes frame low =
    let b = are frame (omega arith) in
    let c = changes.each frame (omega arith) in
    by (get_or pins frame 0) (get_or after frame 0) (table_pins before frame) (table_pins now frame) (leaves (length placed.pages) (readings_of d t) frame) b c
  where
    by : (p a x y l : ℕ) → p ≡ x + l → a + x ≡ p + y → a ≡ y + l
    by p a x y l b c = omega arith

module _ (d e : Device) (g : Gtt) (table : Table) (pins : List ℕ) (s : Serving d g) (is : IsTable table) (ranges : table.ranges ≡ g.table.ranges) (count : table.frames ≡ g.table.frames) (mirrors : Mirrors e table g.memory.frames)
    (moved : ChangesOwnPins g.table table g.memory.pins pins) (changes : ChangesOnly (entries_part g.table.ranges) 0 d e) where
  abbrev after : Gtt
  after = record g { memory = record { frames = g.memory.frames; pins = pins }; table = table }

  keeps : KeepsPages (nodes_in g) d e
  keeps = pages-entries (nodes_in g) g.table.ranges 0 d e changes

  kept_memory : KeepsMemory g.memory.frames d e
  kept_memory = memory-entries g.table.ranges 0 d e g.memory.frames changes s.stands.holds.stands

  long : length pins ≡ length g.memory.frames.pages
  long = moved.frames ∙ s.stands.holds.pinned.0

  are : AreBoth d g.memory.frames table g.tables pins
  are = pins-moved d g.memory.frames g.tables g.table table g.memory.pins pins s.stands.frames (sym count) s.stands.holds.pinned.0 s.stands.pins moved

  are_after : AreBoth e g.memory.frames table g.tables pins
  are_after frame low = are frame low ∙ ap (λ n. table_pins table frame + n) (sym (leaves-kept d e g keeps frame))

  served : Serves e g.memory.frames pins g.tables (memory_of e g)
  served = subst (λ m. Serves e g.memory.frames pins g.tables m) (sym kept_memory.memory)
      (serving_tables_stay d e g.memory.frames g.memory.pins pins g.tables (memory_of d g) s.serves kept_memory.stands keeps
      (is-pinned d g.memory.frames table g.tables pins is (s.stands.frames ∙ sym count) long are)
      (room-same d e g changes.live s.stands.holds.room))

  table-serving : Serving e after
  table-serving = record {
    stands = record { table = is; ranges = s.stands.ranges ∙ sym ranges; frames = s.stands.frames ∙ sym count; mirrors = mirrors; pins = are_after; holds = served.holds };
    serves = served;
  }

-- After a call of the global table both serve on.
pub serving-table : (d e : Device) (g : Gtt) (memory : Memory) (table : Table) → Serving d g → memory.frames ≡ g.memory.frames → IsTable table → table.ranges ≡ g.table.ranges → table.frames ≡ g.table.frames
    → Mirrors e table g.memory.frames → ChangesOwnPins g.table table g.memory.pins memory.pins → ChangesOnly (entries_part g.table.ranges) 0 d e → Serving e (record g { memory = memory; table = table })
serving-table d e g memory table s frames is ranges count mirrors moved changes =
    let at : Placed → Gtt = λ f. record g { memory = record { frames = f; pins = memory.pins }; table = table } in
    subst (λ f. Serving e (at f)) (sym frames) (table-serving d e g table memory.pins s is ranges count mirrors moved changes)

-- ---- what a call of the global table leaves

pub table-changes-none : (d : Device) (g : Gtt) → ChangesTable d d g g
table-changes-none d g = record { frames = refl; tables = refl; ranges = refl; kept = refl; count = refl; memory = refl; pins = own-changes-none g.table g.memory.pins; device = changes-none (entries_part g.table.ranges) 0 d }

pub table-changes-then : (d e f : Device) (a b c : Gtt) → ChangesTable d e a b → ChangesTable e f b c → ChangesTable d f a c
table-changes-then d e f a b c first second = record {
  frames = second.frames ∙ first.frames;
  tables = second.tables ∙ first.tables;
  ranges = second.ranges ∙ first.ranges;
  kept = second.kept ∙ first.kept;
  count = second.count ∙ first.count;
  memory = second.memory ∙ first.memory;
  pins = own-changes-then a.table b.table c.table a.memory.pins b.memory.pins c.memory.pins first.pins second.pins;
  device = changes-then first.device (subst (λ (r : Ranges). ChangesOnly (entries_part r) 0 e f) first.ranges second.device);
}

pub table-step : (d e : Device) (g : Gtt) (memory : Memory) (table : Table) → memory.frames ≡ g.memory.frames → table.ranges ≡ g.table.ranges → table.frames ≡ g.table.frames → ChangesOwnPins g.table table g.memory.pins memory.pins
    → KeepsMemory g.memory.frames d e → ChangesOnly (entries_part g.table.ranges) 0 d e → ChangesTable d e g (record g { memory = memory; table = table })
table-step d e g memory table frames ranges count pins kept device =
    record { frames = frames; tables = refl; ranges = ranges; kept = refl; count = count; memory = ap (memory_in e) frames ∙ kept.memory; pins = pins; device = device }

-- live pages follow where they are as many and the nodes are the same
live-same : (frames : ℕ) (d e : Device) (old new : Pages) → e.live ≡ d.live → new ≡ old → LiveFollows frames d e old new
live-same frames d e old new live same = record {
  others = λ i. live i - count_of frames (same i);
  exact = λ counted. (λ i. live i + count_of frames old) ∙ (λ i. d.live + count_of frames (sym same i));
}

pub live-then : (frames : ℕ) (d e f : Device) (a b c : Pages) → LiveFollows frames d e a b → LiveFollows frames e f b c → LiveFollows frames d f a c
live-then frames d e f a b c first second = record {
  others = second.others ∙ first.others;
  exact = λ counted. by d.live e.live f.live (count_of frames a) (count_of frames b) (count_of frames c) counted (first.exact counted) second.exact;
}
  where
    by : (x y z p q r : ℕ) → p ≤ x → y + p ≡ x + q → (q ≤ y → z + q ≡ y + r) → z + p ≡ x + r
    by x y z p q r low h k = let l = k (omega arith) in omega arith

pub table-changes : (d e : Device) (old new : Gtt) → ChangesTable d e old new → Changes d e old new
table-changes d e old new c = record {
  frames = c.frames;
  ranges = c.ranges;
  outside = subst (λ (q : Part). outside q e ≡ outside (gtt_part old) d) part
      (outside-second (own_part old.memory.frames.guest old.tables) (access_part old.memory.frames.guest old.table.ranges) d e (changes-widen (entries-access old.memory.frames.guest old.table.ranges) c.device).outside);
  live = live-same (length old.memory.frames.pages) d e (nodes_in old) (nodes_in new) c.device.live (ap nodes_of c.tables);
}
  where
    part : gtt_part old ≡ gtt_part new
    part = λ i. both (own_part ((sym c.frames i).guest) (sym c.tables i)) (access_part ((sym c.frames i).guest) (sym c.ranges i))

-- one call after another
pub changes-chain : (d e f : Device) (a b c : Gtt) → Changes d e a b → Changes e f b c → Changes d f a c
changes-chain d e f a b c first second = record {
  frames = second.frames ∙ first.frames;
  ranges = second.ranges ∙ first.ranges;
  outside = second.outside ∙ first.outside;
  live = live-then (length a.memory.frames.pages) d e f (nodes_in a) (nodes_in b) (nodes_in c) first.live
      (subst (λ (placed : Placed). LiveFollows (length placed.pages) e f (nodes_in b) (nodes_in c)) first.frames second.live);
}

-- a change of the guest's frames alone
pub frames-changes : (n : ℕ) (d e : Device) (g : Gtt) → ChangesOnly (frames_part g.memory.frames.guest) n d e → Changes d e g g
frames-changes n d e g changes = record {
  frames = refl;
  ranges = refl;
  outside = outside-second (own_part g.memory.frames.guest g.tables) (access_part g.memory.frames.guest g.table.ranges) d e (changes-widen (frames-access g.memory.frames.guest g.table.ranges) changes).outside;
  live = live-same (length g.memory.frames.pages) d e (nodes_in g) (nodes_in g) changes.live refl;
}

-- ---- the shadow tables

-- After a call of the shadow tables, whatever it answered, both stand.
pub stands-tables : (d e : Device) (g : Gtt) (memory : Memory) (tables : Tables) → Stands d g → memory.frames ≡ g.memory.frames → Holds e memory.frames tables memory.pins
    → ChangesTables g.memory.frames d e g.tables tables g.memory.pins memory.pins → Stands e (record g { memory = memory; tables = tables })
stands-tables d e g memory tables s frames holds c =
    let at : Placed → Gtt = λ f. record g { memory = record { frames = f; pins = memory.pins }; tables = tables } in
    subst (λ f. Stands e (at f)) (sym frames) (record {
      table = s.table;
      ranges = s.ranges;
      frames = s.frames;
      mirrors = mirrors-same d e g (λ page own. entries-tables g.memory.frames.guest g.tables tables d e c.others page) s.mirrors;
      pins = λ frame low. by (get_or g.memory.pins frame 0) (get_or memory.pins frame 0) (table_pins g.table frame) (leaves (length g.memory.frames.pages) (readings_of d g.tables) frame)
          (leaves (length g.memory.frames.pages) (readings_of e tables) frame) (s.pins frame low) (c.pins frame);
      holds = subst (λ (f : Placed). Holds e f tables memory.pins) frames holds;
    })
  where
    by : (p a x l k : ℕ) → p ≡ x + l → a + l ≡ p + k → a ≡ x + k
    by p a x l k b c = omega arith

pub serving-tables : (d e : Device) (g : Gtt) (memory : Memory) (tables : Tables) → Stands d g → memory.frames ≡ g.memory.frames → Serves e memory.frames memory.pins tables (memory_in e memory.frames)
    → ChangesTables g.memory.frames d e g.tables tables g.memory.pins memory.pins → Serving e (record g { memory = memory; tables = tables })
serving-tables d e g memory tables s frames serves c = record { stands = stands-tables d e g memory tables s frames serves.holds c; serves = serves }

pub tables-changes : (d e : Device) (g : Gtt) (memory : Memory) (tables : Tables) → memory.frames ≡ g.memory.frames → ChangesTables g.memory.frames d e g.tables tables g.memory.pins memory.pins
    → Changes d e g (record g { memory = memory; tables = tables })
tables-changes d e g memory tables frames c = record {
  frames = frames;
  ranges = refl;
  outside = subst (λ (placed : Placed). outside (both (own_part placed.guest tables) (access_part placed.guest g.table.ranges)) e ≡ outside (gtt_part g) d) (sym frames)
      (outside-first (own_part g.memory.frames.guest g.tables) (own_part g.memory.frames.guest tables) (access_part g.memory.frames.guest g.table.ranges) d e c.others);
  live = c.live;
}
