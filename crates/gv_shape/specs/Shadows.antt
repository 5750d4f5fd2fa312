-- What shadow tables mean: they stand for the guest's own tables, and so each access through them reaches what
-- the guest's tables grant. And what keeps them.
use Rattle.std.specs.Prelude.{ℕ, ◌≤◌, ◌<◌, ◌≡◌, Bool, true, false, List, Option, None, Some, is_some, length, slice_index}
use Rattle.gv_types.specs.Memory.{Memory}
use Rattle.gv_entry.specs.Tables.{frame_words, is_guarded}
use Rattle.gv_entry.specs.Grants.{read_grant, write_grant}
use Rattle.gv_entry.specs.SameTables.{SameTables}
use Rattle.gv_gpu.specs.Device.{Device}
use Rattle.gv_gpu.specs.Physical.{read_page, write_page}
use Rattle.gv_guest.specs.Placed.{Placed, Hosts}
use Rattle.gv_shape.specs.Shadow.{Pages, Readings, Local, wanted, split_level, is_live, is_split}
use Rattle.gv_shape.specs.Counts.{Settled}

-- Each node up to level 4 is that of a guarded frame, and each word of a node is as the guest's entry, or the
-- split table's frame, wants it.
pub record Shadows (d : Device) (placed : Placed) (m : Memory) (roots : List ℕ) (pages : Pages) : Type 0 where
  pub tables : (level frame p : ℕ) → level ≤ 4 → pages level frame ≡ Some p → is_guarded m roots frame ≡ true
  pub local : Local d placed pages (is_guarded m roots) (wanted m)

-- the host page of a frame, if there is one
abbrev pub host_page : Placed → Option ℕ → Option ℕ
host_page placed None = None
host_page placed (Some frame) = Some (slice_index placed.pages frame)

-- Through the shadow page of a root, what is read and what is written is the host page of the frame that the
-- guest's tables grant for it, and nothing where they grant none.
pub record Reaches (d : Device) (placed : Placed) (m : Memory) (roots : List ℕ) (root page : ℕ) : Type 0 where
  pub read : (at : ℕ) → read_page d page false at ≡ host_page placed (read_grant m root at)
  pub write : (at : ℕ) → write_page d page false at ≡ host_page placed (write_grant m roots root at)

abbrev pub ShadowsReach : Type 0
ShadowsReach = (d : Device) (placed : Placed) (m : Memory) (roots : List ℕ) (pages : Pages) (root page : ℕ) → Hosts d placed
    → Shadows d placed m roots pages → pages 4 root ≡ Some page → Reaches d placed m roots root page

-- the nodes' pages are as they were
pub record KeepsPages (pages : Pages) (d e : Device) : Type 0 where
  pub label : (level frame p : ℕ) → pages level frame ≡ Some p → e.label p ≡ d.label p
  pub words : (level frame p : ℕ) → pages level frame ≡ Some p → e.words p ≡ d.words p

-- Shadow tables stay right as long as their pages and the words of guarded frames are as they were.
abbrev pub ShadowsKeep : Type 0
ShadowsKeep = (d e : Device) (placed : Placed) (m n : Memory) (roots : List ℕ) (pages : Pages) → KeepsPages pages d e → SameTables m n roots
    → Shadows d placed m roots pages → Shadows e placed n roots pages

-- there is a node exactly for each live table and each split key
pub record AreLiveTables (m : Memory) (roots : List ℕ) (pages : Pages) : Type 0 where
  pub tables : (level frame : ℕ) → 1 ≤ level → level ≤ 4 → is_some (pages level frame) ≡ is_live m roots level frame
  pub split : (base : ℕ) (writable : Bool) → is_some (pages (split_level writable) base) ≡ is_split m roots base writable

abbrev pub NodesAreTheLiveTables : Type 0
NodesAreTheLiveTables = (frames : ℕ) (m : Memory) (roots : List ℕ) (pages : Pages) (parents : ℕ → ℕ → ℕ) (readings : Readings) → length m ≡ frames
    → ((frame : ℕ) → frame < frames → length (frame_words m frame) ≡ 512) → Settled frames m roots 0 pages parents readings → AreLiveTables m roots pages
