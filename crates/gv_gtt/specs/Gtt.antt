-- What a guest's memory, its global table and its per-process tables are together: the part of its private device
-- that they stand for, and the part of the shared device that they have.
use Rattle.std.specs.Prelude.{ℕ, ◌+◌, ◌*◌, ◌≤◌, ◌≡◌, ◌||◌, List, length}
use Rattle.gv_types.specs.Memory.{Memory}
use Rattle.gv_types.specs.declared.ranges.Ranges.{Ranges}
use Rattle.gv_gpu.specs.Device.{Device}
use Rattle.gv_gpu.specs.Part.{Part, access_part}
use Rattle.gv_guest.specs.Placed.{Placed, memory_in}
use Rattle.gv_private.specs.Device.{PrivateDevice}
use Rattle.gv_shape.specs.Counts.{leaves, one_if}
use Rattle.gv_shape.specs.Shadow.{Pages, is_live}
use Rattle.gv_sppgtt.specs.Grown.{count_of}
use Rattle.gv_sppgtt.specs.Serving.{roots_of}
use Rattle.gv_sppgtt.specs.State.{pages_of, readings_of, own_part}
use Rattle.gv_gtt.specs.declared.gtt.Gtt.{Gtt}

-- ---- the guest's side

-- the guest's frames, each with its host page
abbrev pub frames_of : Gtt → Placed
frames_of g = g.memory.frames

abbrev pub number_of : Gtt → ℕ
number_of g = g.memory.frames.guest

abbrev pub ranges_of : Gtt → Ranges
ranges_of g = g.table.ranges

abbrev pub memory_of : Device → Gtt → Memory
memory_of d g = memory_in d g.memory.frames

-- the frames that are roots of per-process tables, in rising order
abbrev pub roots_in : Gtt → List ℕ
roots_in g = roots_of g.tables

-- A private device with the memory, the entries and the roots that stand in the device. All else is as it was.
abbrev pub over : PrivateDevice → Device → Gtt → PrivateDevice
over p d g = record p {
  number = number_of g;
  ranges = ranges_of g;
  memory = memory_of d g;
  entries = g.table.entries;
  roots = roots_in g;
}

-- the entries of the guest's global table: those of the low range, then those of the high one
abbrev pub entries_of : Gtt → List ℕ
entries_of g = g.table.entries

-- at how many levels a frame is a live table
abbrev pub levels_of : Memory → List ℕ → ℕ → ℕ
levels_of m roots frame = one_if (is_live m roots 1 frame) + one_if (is_live m roots 2 frame) + one_if (is_live m roots 3 frame) + one_if (is_live m roots 4 frame)

-- ---- the device's side

-- the host pages of the shadow tables, by level and frame
abbrev pub nodes_in : Gtt → Pages
nodes_in g = pages_of g.tables

-- how many host pages they have
abbrev pub own_pages : Gtt → ℕ
own_pages g = count_of (length g.memory.frames.pages) (pages_of g.tables)

-- how many words of shadow tables map a frame
abbrev pub leaves_of : Device → Gtt → ℕ → ℕ
leaves_of d g frame = leaves (length g.memory.frames.pages) (readings_of d g.tables) frame

-- either of two parts
abbrev pub both : Part → Part → Part
both p q = record {
  page = λ n l. p.page n l || q.page n l;
  entry = λ i. p.entry i || q.entry i;
  engine = λ e. p.engine e || q.engine e;
  spare = p.spare || q.spare;
}

-- the pages of the shadow tables, the guest's frames, and the entries of its ranges
abbrev pub gtt_part : Gtt → Part
gtt_part g = both (own_part (number_of g) g.tables) (access_part (number_of g) (ranges_of g))

-- The ranges that it knows of are the global table's.
abbrev pub KnowsRanges : Gtt → Type 0
KnowsRanges g = g.ranges ≡ g.table.ranges

-- There is room for all the shadow tables that the guest can have.
abbrev pub HasRoomFor : Device → Gtt → Type 0
HasRoomFor d g = d.live + (4 * length g.memory.frames.pages + 64) ≤ 131072 + own_pages g
