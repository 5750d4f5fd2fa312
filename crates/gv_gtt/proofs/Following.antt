-- From a write of memory to tables that follow it.
use Rattle.std.proofs.Common.{◌≡◌, ℕ, ◌+◌, ◌*◌, ◌/◌, ◌%◌, ◌<◌, Bool, List, length, sym, ap, ◌∙◌, subst}
use Rattle.std.proofs.lemmas.List.{length-map}
use Rattle.gv_types.specs.Memory.{Memory as Words, memory_write}
use Rattle.gv_types.specs.declared.event.Width.{Width}
use Rattle.gv_types.specs.declared.ranges.Ranges.{Ranges}
use Rattle.gv_gpu.specs.Change.{ChangesOnly}
use Rattle.gv_gpu.specs.Device.{Device}
use Rattle.gv_gpu.specs.Part.{frames_part}
use Rattle.gv_guest.specs.Placed.{Hosts, memory_in}
use Rattle.gv_guest.specs.declared.memory.Memory.{Memory}
use Rattle.gv_private.specs.Device.{PrivateDevice}
use Rattle.gv_sggtt.specs.Pins.{table_pins}
use Rattle.gv_sggtt.specs.Table.{guards}
use Rattle.gv_sppgtt.specs.Serving.{Serves, ChangesTables, ChangedAt, Tells, guarded_of}
use Rattle.gv_sppgtt.specs.declared.tables.Tables.{Tables}
use Rattle.gv_sppgtt.proofs.Standing.{serving_tables_stay}
use Rattle.gv_gtt.specs.Changes.{Changes, ChangesTable}
use Rattle.gv_gtt.specs.Gtt.{memory_of, roots_in, nodes_in, number_of, ranges_of, entries_of, over}
use Rattle.gv_gtt.specs.Standing.{Stands, Translates, Follows}
use Rattle.gv_gtt.specs.declared.gtt.Gtt.{Gtt}
use Rattle.gv_gtt.proofs.Parts.{pages-frames, entries-frames}
use Rattle.gv_gtt.proofs.Standing.{leaves-kept, mirrors-same}
use Rattle.gv_gtt.proofs.Steps.{tables-changes, table-changes, changes-chain}
use Rattle.gv_gtt.proofs.Unguarded.{room-same}
use Rattle.gv_gtt.proofs.Words.{changed-write}

-- After a write of memory the tables are for the words before it.
module _ (d e : Device) (g : Gtt) (n : ℕ) (s : Translates d g) (hosts : Hosts e g.memory.frames) (changes : ChangesOnly (frames_part g.memory.frames.guest) n d e) where
  written-serves : Serves e g.memory.frames g.memory.pins g.tables (memory_of d g)
  written-serves = serving_tables_stay d e g.memory.frames g.memory.pins g.memory.pins g.tables (memory_of d g) s.serving.serves hosts
      (pages-frames (nodes_in g) g.memory.frames.guest d e s.serving.stands.holds.sound.local.labelled n changes) s.serving.stands.holds.pinned (room-same d e g changes.live s.serving.stands.holds.room)

  written-stands : Stands e g
  written-stands = record {
    table = s.serving.stands.table;
    ranges = s.serving.stands.ranges;
    frames = s.serving.stands.frames;
    mirrors = mirrors-same d e g (λ page own. entries-frames g.memory.frames.guest n d e changes page) s.serving.stands.mirrors;
    pins = λ frame low. s.serving.stands.pins frame low
        ∙ ap (λ k. table_pins g.table frame + k) (sym (leaves-kept d e g (pages-frames (nodes_in g) g.memory.frames.guest d e s.serving.stands.holds.sound.local.labelled n changes) frame));
    holds = written-serves.holds;
  }

  pub written-follows : (width : Width) (at value : ℕ) → memory_of e g ≡ memory_write (memory_of d g) width at value → at < length g.memory.frames.pages * 4096 → (m : Words) × Follows e g m (at / 4096) (at % 4096 / 8)
  written-follows width at value memory low = (
    memory_of d g,
    record {
      stands = written-stands;
      serves = written-serves;
      guarded = s.guarded;
      changed = subst (λ (m : Words). ChangedAt (memory_of d g) m (at / 4096) (at % 4096 / 8)) (sym memory)
          (changed-write (memory_of d g) width at value (subst (λ k. at < k * 4096) (sym (length-map g.memory.frames.pages d.words)) low));
    },
  )

-- what a call of the shadow tables tells, in terms of the global table's guards
pub tells-guards : (g : Gtt) (tables : Tables) (frames : ℕ) (came went : List ℕ) → ((frame : ℕ) → guards g.table.guarded frame ≡ guarded_of g.tables frame) → Tells (guarded_of g.tables) (guarded_of tables) frames came went
    → Tells (guards g.table.guarded) (guarded_of tables) frames came went
tells-guards g tables frames came went same tells = subst (λ (before : ℕ → Bool). Tells before (guarded_of tables) frames came went) (λ i frame. sym (same frame) i) tells

-- memory after a call of the shadow tables
pub tables-memory : (d e : Device) (g : Gtt) (memory : Memory) (tables : Tables) → memory.frames ≡ g.memory.frames → ChangesTables g.memory.frames d e g.tables tables g.memory.pins memory.pins
    → memory_in e memory.frames ≡ memory_of d g
tables-memory d e g memory tables frames c = ap (memory_in e) frames ∙ c.memory

-- a call of the shadow tables, and then what the global table is told
pub told-changes : (d e f : Device) (g : Gtt) (memory : Memory) (tables : Tables) (new : Gtt) → memory.frames ≡ g.memory.frames → ChangesTables g.memory.frames d e g.tables tables g.memory.pins memory.pins
    → ChangesTable e f (record g { memory = memory; tables = tables }) new → Changes d f g new
told-changes d e f g memory tables new frames c told =
    changes-chain d e f g (record g { memory = memory; tables = tables }) new (tables-changes d e g memory tables frames c) (table-changes e f (record g { memory = memory; tables = tables }) new told)

-- the private device that is seen
pub over-path : (p : PrivateDevice) (e : Device) (g : Gtt) (number : ℕ) (ranges : Ranges) (m : Words) (entries roots : List ℕ) → number_of g ≡ number → ranges_of g ≡ ranges → memory_of e g ≡ m → entries_of g ≡ entries → roots_in g ≡ roots
    → over p e g ≡ record p { number = number; ranges = ranges; memory = m; entries = entries; roots = roots }
over-path p e g number ranges m entries roots a b c x y = λ i. record p { number = a i; ranges = b i; memory = c i; entries = x i; roots = y i }
