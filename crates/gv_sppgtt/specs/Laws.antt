-- What follows for tables that serve a memory.
use Rattle.std.specs.Prelude.{ℕ, ◌+◌, ◌*◌, ◌/◌, ◌^◌, ◌<◌, ◌≤◌, ◌≡◌, ◌&&◌, ◌==◌, nat_lt, List, None, Some, length}
use Rattle.gv_types.specs.Memory.{Memory}
use Rattle.gv_entry.specs.Tables.{is_guarded}
use Rattle.gv_entry.specs.Grants.{is_mapped}
use Rattle.gv_entry.specs.declared.process.Process.TheVariants.{Absent}
use Rattle.gv_entry.specs.SameTables.{SameTables}
use Rattle.gv_gpu.specs.Device.{Device}
use Rattle.gv_guest.specs.Placed.{Placed, Hosts, memory_in}
use Rattle.gv_rmap.specs.declared.leaf.Leaf.{Leaf}
use Rattle.gv_rmap.specs.Leaves.{leaf_at, key, IsInOrder}
use Rattle.gv_shape.specs.Shadow.{wanted}
use Rattle.gv_shape.specs.Counts.{namings, leaves, one_if, is_among}
use Rattle.gv_shape.specs.Shadows.{Shadows, KeepsPages, AreLiveTables}
use Rattle.gv_sppgtt.specs.Grown.{count_of}
use Rattle.gv_sppgtt.specs.State.{pages_of, parents_of, readings_of, IsPinned, HasRoom}
use Rattle.gv_sppgtt.specs.Holding.{Holds}
use Rattle.gv_sppgtt.specs.Serving.{roots_of, guarded_of, chain_in, IsMapping, Serves}
use Rattle.gv_sppgtt.specs.declared.tables.Tables.{Tables}

abbrev pub ServingTablesShadow : Type 0
ServingTablesShadow = (d : Device) (placed : Placed) (pins : List ℕ) (t : Tables) → Serves d placed pins t (memory_in d placed) → Shadows d placed (memory_in d placed) (roots_of t) (pages_of t)

abbrev pub ServingTablesAreLive : Type 0
ServingTablesAreLive = (d : Device) (placed : Placed) (pins : List ℕ) (t : Tables) → Serves d placed pins t (memory_in d placed) → AreLiveTables (memory_in d placed) (roots_of t) (pages_of t)

abbrev pub ServingTablesTell : Type 0
ServingTablesTell = (d : Device) (placed : Placed) (pins : List ℕ) (t : Tables) → Serves d placed pins t (memory_in d placed) → (frame : ℕ) → guarded_of t frame ≡ is_guarded (memory_in d placed) (roots_of t) frame

-- Tables serve as long as their nodes' pages stay, the memory stands, pins fit the leaves and there is room.
abbrev pub ServingTablesStay : Type 0
ServingTablesStay = (d e : Device) (placed : Placed) (pins after : List ℕ) (t : Tables) (m : Memory) → Serves d placed pins t m → Hosts e placed → KeepsPages (pages_of t) d e → IsPinned d placed t after → HasRoom e placed t
    → Serves e placed after t m

-- They serve any memory with the same words in guarded frames.
abbrev pub ServingTablesKeep : Type 0
ServingTablesKeep = (d : Device) (placed : Placed) (pins : List ℕ) (t : Tables) (n : Memory) → Serves d placed pins t (memory_in d placed) → SameTables (memory_in d placed) n (roots_of t) → Serves d placed pins t n

-- There are at most four nodes for each frame, and two for each large page that is whole in memory.
abbrev pub TablesAreFew : Type 0
TablesAreFew = (d : Device) (placed : Placed) (pins : List ℕ) (t : Tables) → Holds d placed t pins → count_of (length placed.pages) (pages_of t) ≤ 4 * length placed.pages + 2 * (length placed.pages / 512)

-- What the words of nodes stand for, and how often a node is named.
pub record CountsNamings (d : Device) (placed : Placed) (t : Tables) : Type 0 where
  pub words : (level frame page index : ℕ) → pages_of t level frame ≡ Some page → index < 512 → readings_of d t level frame index ≡ wanted (memory_in d placed) level frame index
  pub empty : (level frame index : ℕ) → pages_of t level frame ≡ None → readings_of d t level frame index ≡ Absent
  pub parents : (level frame : ℕ) → 1 ≤ level → parents_of t level frame ≡ namings (length placed.pages) (readings_of d t) level frame + one_if ((level == 4) && is_among (roots_of t) frame)

-- A node's parents are the words of nodes that name it, and one more where it is a root.
abbrev pub ServingTablesCount : Type 0
ServingTablesCount = (d : Device) (placed : Placed) (pins : List ℕ) (t : Tables) → Serves d placed pins t (memory_in d placed) → CountsNamings d placed t

-- The chain of a frame has each leaf that maps the frame, at its key, no other, and none twice.
pub record ChainsMappings (d : Device) (placed : Placed) (t : Tables) : Type 0 where
  pub each : (level table frame : ℕ) (leaf : Leaf) → IsMapping (memory_in d placed) t level table frame leaf → leaf_at (chain_in t frame) (key leaf) ≡ Some leaf
  pub no_other : (frame place : ℕ) (leaf : Leaf) → leaf_at (chain_in t frame) place ≡ Some leaf → (place ≡ key leaf) × ((level table : ℕ) × IsMapping (memory_in d placed) t level table frame leaf)
  pub once : (frame : ℕ) → IsInOrder (chain_in t frame)

abbrev pub ServingTablesChain : Type 0
ServingTablesChain = (d : Device) (placed : Placed) (pins : List ℕ) (t : Tables) → Serves d placed pins t (memory_in d placed) → ChainsMappings d placed t

-- how many leaves map a frame, which is how often the tables have pinned it
abbrev pub leaves_of : Device → Placed → Tables → ℕ → ℕ
leaves_of d placed t frame = leaves (length placed.pages) (readings_of d t) frame

-- Tables pin a frame exactly where the guest's own tables map it, and less than 2^24 times.
abbrev pub ServingTablesPin : Type 0
ServingTablesPin = (d : Device) (placed : Placed) (pins : List ℕ) (t : Tables) → Serves d placed pins t (memory_in d placed)
    → (frame : ℕ) → (nat_lt 0 (leaves_of d placed t frame) ≡ is_mapped (memory_in d placed) (roots_of t) frame) × (leaves_of d placed t frame < 2 ^ 24)

-- Tables serve on where the memory stands with the same words in guarded frames, the nodes' pages are as they were,
-- and there is room: so after a store to a frame that isn't guarded.
abbrev pub ServingTablesServeOn : Type 0
ServingTablesServeOn = (d e : Device) (placed : Placed) (pins : List ℕ) (t : Tables) → Serves d placed pins t (memory_in d placed) → Hosts e placed
    → SameTables (memory_in d placed) (memory_in e placed) (roots_of t) → KeepsPages (pages_of t) d e → HasRoom e placed t → Serves e placed pins t (memory_in e placed)
