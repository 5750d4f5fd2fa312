-- How a guest's memory and tables stand in the device.
use Rattle.std.specs.Prelude.{ℕ, ◌+◌, ◌<◌, ◌≡◌, length, slice_index}
use Rattle.gv_types.specs.Memory.{Memory}
use Rattle.gv_gpu.specs.Device.{Device}
use Rattle.gv_sggtt.specs.Mirror.{Mirrors}
use Rattle.gv_sggtt.specs.Pins.{table_pins}
use Rattle.gv_sggtt.specs.Table.{IsTable, guards}
use Rattle.gv_sppgtt.specs.Holding.{Holds}
use Rattle.gv_sppgtt.specs.Serving.{Serves, ChangedAt, guarded_of}
use Rattle.gv_gtt.specs.Gtt.{memory_of, leaves_of, KnowsRanges}
use Rattle.gv_gtt.specs.declared.gtt.Gtt.{Gtt}

-- What holds whatever a call answered, and is enough to clear the tables: the device mirrors the global table, the
-- shadow tables hold, and each frame has the pins of the global table and of the shadow tables, and no other.
pub record Stands (d : Device) (g : Gtt) : Type 0 where
  pub table : IsTable g.table
  pub ranges : KnowsRanges g
  pub frames : length g.memory.frames.pages ≡ g.table.frames
  pub mirrors : Mirrors d g.table g.memory.frames
  pub pins : (frame : ℕ) → frame < g.table.frames → slice_index g.memory.pins frame ≡ table_pins g.table frame + leaves_of d g frame
  pub holds : Holds d g.memory.frames g.tables g.memory.pins

-- And the shadow tables stand for the guest's own.
pub record Serving (d : Device) (g : Gtt) : Type 0 where
  pub stands : Stands d g
  pub serves : Serves d g.memory.frames g.memory.pins g.tables (memory_of d g)

-- And the global table guards the frames that are live tables. This holds between calls.
pub record Translates (d : Device) (g : Gtt) : Type 0 where
  pub serving : Serving d g
  pub guarded : (k : ℕ) → guards g.table.guarded k ≡ guarded_of g.tables k

-- One word of a frame was changed since: they stand for words m of memory that were the same but for this one.
pub record Follows (d : Device) (g : Gtt) (m : Memory) (frame index : ℕ) : Type 0 where
  pub stands : Stands d g
  pub serves : Serves d g.memory.frames g.memory.pins g.tables m
  pub guarded : (k : ℕ) → guards g.table.guarded k ≡ guarded_of g.tables k
  pub changed : ChangedAt m (memory_of d g) frame index
