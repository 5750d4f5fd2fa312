-- How the shadow tables are held, and what always holds of them.
use Rattle.std.specs.Prelude.{ℕ, ◌+◌, ◌*◌, ◌/◌, ◌%◌, ◌^◌, ◌≤◌, ◌<◌, ◌≡◌, Bool, true, false, ◌==◌, nat_lt, if◌then◌else◌, List, Option, None, Some, length, slice_index, slice_index_or}
use Rattle.gv_entry.specs.declared.process.Process.{Process}
use Rattle.gv_entry.specs.declared.process.Process.TheVariants.{Absent, Table, Large, Page, Bad}
use Rattle.gv_gpu.specs.Device.{Device}
use Rattle.gv_guest.specs.Placed.{Placed}
use Rattle.gv_nodes.specs.declared.nodes.Node.{Node}
use Rattle.gv_nodes.specs.NodeMap.{NodeMap}
use Rattle.gv_rmap.specs.declared.leaf.Leaf.{Leaf}
use Rattle.gv_rmap.specs.Leaves.{leaf_at, key, IsInOrder}
use Rattle.gv_rmap.specs.Chains.{ReverseMap, chain_of}
use Rattle.gv_sppgtt.specs.declared.tables.Child.{Child}
use Rattle.gv_sppgtt.specs.declared.tables.Word.{Word}
use Rattle.gv_sppgtt.specs.declared.tables.Word.TheVariants.{Nothing, Leaf as LeafWord, Node as NodeWord, Refused}
use Rattle.gv_nodes.specs.NodeOf.{node_of}
use Rattle.gv_shape.specs.Shadow.{Pages, Readings, Local, has_leaves, table_word, split_word}
use Rattle.gv_shape.specs.Counts.{namings, naming, above, leaves}

abbrev pub page_of_node : Option Node → Option ℕ
page_of_node None = None
page_of_node (Some node) = Some node.page

abbrev pub parents_of_node : Option Node → ℕ
parents_of_node None = 0
parents_of_node (Some node) = node.parents

abbrev pub pages_in : NodeMap → Pages
pages_in nodes level frame = page_of_node (node_of nodes level frame)

abbrev pub parents_in : NodeMap → ℕ → ℕ → ℕ
parents_in nodes level frame = parents_of_node (node_of nodes level frame)

-- What a word of a node at a level stands for: the host page that it names tells the frame.
abbrev pub decode : List ℕ → ℕ → ℕ → Process
decode owners level word =
    if word % 2 == 0 then Absent
    else (if has_leaves level then Page (slice_index owners (word / 4096)) (word / 4 % 2 == 1)
    else (if word / 4 % 2 == 1 then Large (slice_index owners (word / 4096)) (word / 8 % 2 == 1)
    else Table (slice_index owners (word / 4096))))

abbrev pub reading_at : (ℕ → List ℕ) → List ℕ → ℕ → Option ℕ → ℕ → Process
reading_at words owners level None index = Absent
reading_at words owners level (Some page) index = decode owners level (slice_index (words page) index)

abbrev pub readings_in : (ℕ → List ℕ) → List ℕ → Pages → Readings
readings_in words owners pages level frame index = reading_at words owners level (pages level frame) index

abbrev pub leaf_of : ℕ → ℕ → Bool → Leaf
leaf_of page index writable = record { page = page; index = index; writable = writable }

abbrev pub flag : List Bool → ℕ → Bool
flag told frame = slice_index_or told frame false

-- A split table's frames are in memory, and the first is a multiple of 512.
abbrev pub IsWhole : ℕ → ℕ → ℕ → Type 0
IsWhole frames level base = 5 ≤ level → (base % 512 ≡ 0) × (base + 511 < frames)

-- the nodes, each with a page of its own
pub record Boarded (d : Device) (frames : ℕ) (pages : Pages) (owners : List ℕ) : Type 0 where
  pub low : (k f p : ℕ) → pages k f ≡ Some p → (f < frames) × ((1 ≤ k) × (k ≤ 6))
  pub whole : (k f p : ℕ) → pages k f ≡ Some p → IsWhole frames k f
  pub long : (k f p : ℕ) → pages k f ≡ Some p → length (d.words p) ≡ 512
  pub below : (k f p : ℕ) → pages k f ≡ Some p → p < 131072
  pub apart : (k f j g p : ℕ) → pages k f ≡ Some p → pages j g ≡ Some p → (k ≡ j) × (f ≡ g)
  pub owner : (k f p : ℕ) → pages k f ≡ Some p → slice_index owners p ≡ f

-- each chain in the order of its keys, so that no key comes twice
abbrev pub AreInOrder : ReverseMap → Type 0
AreInOrder chains = (h : ℕ) → IsInOrder (chain_of chains h)

-- the chains are the leaves
pub record Chained (pages : Pages) (readings : Readings) (chains : ReverseMap) : Type 0 where
  pub ordered : AreInOrder chains
  pub linked : (k f p i h : ℕ) (w : Bool) → has_leaves k ≡ true → pages k f ≡ Some p → i < 512 → readings k f i ≡ Page h w → leaf_at (chain_of chains h) (p * 2 ^ 16 + i) ≡ Some (leaf_of p i w)
  pub leaves : (h q : ℕ) (leaf : Leaf) → leaf_at (chain_of chains h) q ≡ Some leaf → (k f : ℕ) × ((has_leaves k ≡ true) × ((pages k f ≡ Some leaf.page) × ((leaf.index < 512) × ((q ≡ key leaf) × (readings k f leaf.index ≡ Page h leaf.writable)))))

-- no node is named more often than it has parents
abbrev pub Counted : ℕ → (ℕ → ℕ → ℕ) → Readings → Type 0
Counted frames parents readings = (k f : ℕ) → 1 ≤ k → namings frames readings k f ≤ parents k f

-- the frames have at least the pins of their leaves, and not too many others
abbrev pub Pinned : ℕ → List ℕ → Readings → Type 0
Pinned frames pins readings = (h : ℕ) → h < frames → (leaves frames readings h ≤ slice_index pins h) × (slice_index pins h ≤ leaves frames readings h + 2 ^ 24)

-- one word of a node stands for something else, and the others for what they did
pub record Enters (old new : Readings) (level frame index : ℕ) (e : Process) : Type 0 where
  pub here : new level frame index ≡ e
  pub others : (k f i : ℕ) → i < 512 → (k ≡ level → f ≡ frame → i ≡ index → ⊥) → new k f i ≡ old k f i

-- what is known of a leaf that a word names
pub record IsLinked (owners : List ℕ) (chains : ReverseMap) (pins : List ℕ) (word page index h : ℕ) (w : Bool) : Type 0 where
  pub named : word / 4096 < length owners
  pub there : h < length chains.chains
  pub linked : leaf_at (chain_of chains h) (page * 2 ^ 16 + index) ≡ Some (leaf_of page index w)
  pub counted : h < length pins
  pub pinned : 1 ≤ slice_index pins h

-- all of it together
pub record Sound (d : Device) (placed : Placed) (nodes : NodeMap) (chains : ReverseMap) (owners : List ℕ) (told : List Bool) : Type 0 where
  pub frames : nodes.frames ≡ length placed.pages
  pub chains_long : length chains.chains ≡ length placed.pages
  pub told_long : length told ≡ length placed.pages
  pub owners_long : length owners ≡ 131072
  pub boarded : Boarded d (length placed.pages) (pages_in nodes) owners
  pub local : Local d placed (pages_in nodes) (flag told) (readings_in d.words owners (pages_in nodes))
  pub chained : Chained (pages_in nodes) (readings_in d.words owners (pages_in nodes)) chains
  pub counted : Counted (length placed.pages) (parents_in nodes) (readings_in d.words owners (pages_in nodes))

-- a leaf, or none, as an entry
abbrev pub leaf_entry : Option (ℕ × Bool) → Process
leaf_entry None = Absent
leaf_entry (Some to) = Page to.0 to.1

-- the leaf that stands at a key of a frame's chain where the word there stands for this
abbrev pub place_leaf : ℕ → ℕ → ℕ → Process → Option Leaf
place_leaf page index h (Page f w) = if f == h then Some (leaf_of page index w) else None
place_leaf page index h other = None

-- a node that an entry names: its frame, level and page
abbrev pub child_entry : Option Child → Process
child_entry None = Absent
child_entry (Some to) = naming to.level to.frame

abbrev pub child_value : Option Child → ℕ
child_value None = 0
child_value (Some to) = if nat_lt to.level 5 then table_word to.page else split_word to.page (to.level == 5)

-- it is there, a level below, or as a split table
abbrev pub IsChild : Pages → ℕ → Option Child → Type 0
IsChild pages level None = level ≡ level
IsChild pages level (Some to) = (pages to.level to.frame ≡ Some to.page) × ((above to.level ≡ level) × ((1 ≤ to.level) × (to.level ≤ 6)))

-- a node that an entry of a level may name
pub record IsBelow (frames level frame lower : ℕ) : Type 0 where
  pub above : above lower ≡ level
  pub low : 1 ≤ lower
  pub six : lower ≤ 6
  pub high : 2 ≤ level
  pub four : level ≤ 4
  pub small : frame < frames
  pub whole : IsWhole frames lower frame

-- what a word is to stand for
abbrev pub word_entry : Word → Process
word_entry Nothing = Absent
word_entry (LeafWord h w) = Page h w
word_entry (NodeWord h lower) = naming lower h
word_entry Refused = Bad

abbrev pub IsWord : ℕ → ℕ → Word → Type 0
IsWord frames level Nothing = level ≡ level
IsWord frames level (LeafWord h w) = (has_leaves level ≡ true) × (h < frames)
IsWord frames level (NodeWord h lower) = IsBelow frames level h lower
IsWord frames level Refused = level ≤ 4
