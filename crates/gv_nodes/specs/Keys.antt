-- How the nodes are kept: in a slab, with a list of keys beside it that has six positions for each frame.
-- No public clause cites this module.
use Rattle.std.specs.Prelude.{ℕ, ◌+◌, ◌*◌, ◌-◌, ◌^◌, ◌≤◌, ◌≡◌, List, length, Option, Some, None, is_some, count_by, slice_index_or}
use Rattle.std.specs.FinMap.{from_entries}
use Rattle.slab.specs.Slab.{Slab, get, slab_len, entries}
use Rattle.gv_nodes.specs.declared.nodes.Node.{Node}
use Rattle.gv_nodes.specs.NodeMap.{NodeMap, IsPlaced}

-- the position of a frame's key at a level
abbrev pub position_of : ℕ → ℕ → ℕ
position_of frame level = frame * 6 + (level - 1)

abbrev pub key_at : List (Option ℕ) → ℕ → ℕ → Option ℕ
key_at keys frame level = slice_index_or keys (position_of frame level) None

abbrev pub node_map : ℕ → Slab Node → ℕ → NodeMap
node_map frames tables spare = record { frames = frames; nodes = from_entries (entries tables); spare = spare }

-- how the list of keys, the slab and the count of spare nodes fit
pub record AreKeys (keys : List (Option ℕ)) (tables : Slab Node) (frames spare : ℕ) : Type 0 where
  -- six positions a frame
  pub positions : length keys ≡ frames * 6
  -- each node is in range, and its key stands in its position
  pub placed : (key : ℕ) (node : Node) → get tables key ≡ Some node → IsPlaced frames node
  pub listed : (key : ℕ) (node : Node) → get tables key ≡ Some node → key_at keys node.frame node.level ≡ Some key
  -- each key that stands in a position is that of the position's node
  pub kept : (position key : ℕ) → slice_index_or keys position None ≡ Some key → (node : Node) × (get tables key ≡ Some node) × (position_of node.frame node.level ≡ position)
  -- there are as many keys as nodes, and the slab has room for the spare ones
  pub count : count_by is_some keys ≡ slab_len tables
  pub room : slab_len tables + spare ≤ tables.capacity
  -- so no count leaves its type: there are six nodes a frame at the most, and `reserve` takes 32 bits
  pub bounded : slab_len tables + spare ≤ frames * 6 + 2 ^ 32
