-- What a call leaves of a guest's memory and tables, and of the device.
use Rattle.std.specs.Prelude.{ℕ, ◌≡◌, List, length}
use Rattle.gv_entry.specs.Tables.{live, split_keys}
use Rattle.gv_gpu.specs.Change.{ChangesOnly}
use Rattle.gv_gpu.specs.Device.{Device}
use Rattle.gv_gpu.specs.Part.{outside, entries_part}
use Rattle.gv_sggtt.specs.Pins.{ChangesOwnPins}
use Rattle.gv_types.specs.Memory.{Memory}
use Rattle.gv_sppgtt.specs.State.{LiveFollows}
use Rattle.gv_gtt.specs.Gtt.{gtt_part, nodes_in, memory_of}
use Rattle.gv_gtt.specs.declared.gtt.Gtt.{Gtt}

-- The frames stand in the same host pages, and the ranges stay. Nothing else of the device changed but this part,
-- and live pages move with the shadow tables.
pub record Changes (d e : Device) (old new : Gtt) : Type 0 where
  pub frames : new.memory.frames ≡ old.memory.frames
  pub ranges : new.table.ranges ≡ old.table.ranges
  pub outside : outside (gtt_part new) e ≡ outside (gtt_part old) d
  pub live : LiveFollows (length old.memory.frames.pages) d e (nodes_in old) (nodes_in new)

-- The global table changed alone, with its pins and its entries in the device.
pub record ChangesTable (d e : Device) (old new : Gtt) : Type 0 where
  pub frames : new.memory.frames ≡ old.memory.frames
  pub tables : new.tables ≡ old.tables
  pub ranges : new.table.ranges ≡ old.table.ranges
  pub kept : new.ranges ≡ old.ranges
  pub count : new.table.frames ≡ old.table.frames
  pub memory : memory_of e new ≡ memory_of d old
  pub pins : ChangesOwnPins old.table new.table old.memory.pins new.memory.pins
  pub device : ChangesOnly (entries_part old.table.ranges) 0 d e

-- the same live tables and the same split keys
pub record HaveSameLive (m n : Memory) (roots : List ℕ) : Type 0 where
  pub live : (level : ℕ) → live n roots level ≡ live m roots level
  pub split : split_keys n roots ≡ split_keys m roots
