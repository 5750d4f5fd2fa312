-- The shadow tables of a guest, each a node under a key. As a map from frame and level they are seen by
-- `IsKeyOf`: a frame has one node at a level, or none.
use Rattle.std.specs.Prelude.{ℕ, ◌+◌, ◌-◌, ◌<◌, ◌≤◌, ◌≡◌, ◌≢◌, Option, Some, None, IsSome, max, refl}
use Rattle.std.specs.Option.{option_map_or}
use Rattle.std.specs.Ordering.{nat_cmp}
use Rattle.std.specs.FinMap.{FinMap, empty, get, insert, remove, code}
use Rattle.std.specs.Coded.{Coded, code_by, coded×, coded_ℕ}
use Rattle.gv_nodes.specs.declared.nodes.Node.{Node}

pub record NodeMap : Type 0 where
  pub frames : ℕ  -- how many frames the guest has
  pub nodes : FinMap nat_cmp Node  -- the node under each key
  pub spare : ℕ  -- how many more nodes there is memory for

-- nodes, and such maps, are stored as the tuples of their fields
abbrev pub node_code : Coded Node
node_code =
    code_by (ℕ × (ℕ × (ℕ × ℕ))) (coded× coded_ℕ (coded× coded_ℕ (coded× coded_ℕ coded_ℕ)))
    (λ node. (node.frame, (node.level, (node.page, node.parents))))
    (λ p. record { frame = p.0; level = p.1.0; page = p.1.1.0; parents = p.1.1.1 })
    (λ _. refl)

abbrev pub node_map_code : Coded NodeMap
node_map_code =
    code_by (ℕ × (FinMap nat_cmp Node × ℕ)) (coded× coded_ℕ (coded× (code coded_ℕ node_code) coded_ℕ))
    (λ s. (s.frames, (s.nodes, s.spare)))
    (λ p. record { frames = p.0; nodes = p.1.0; spare = p.1.1 })
    (λ _. refl)

abbrev pub no_nodes : ℕ → NodeMap
no_nodes frames = record { frames = frames; nodes = empty; spare = 0 }

-- the node under the key, if there is one
abbrev pub node_at : NodeMap → ℕ → Option Node
node_at s key = get s.nodes key

abbrev pub HasNode : NodeMap → ℕ → Type 0
HasNode s key = IsSome (node_at s key)

-- how many parents the node has; 0 where there is none
abbrev pub parents_of : NodeMap → ℕ → ℕ
parents_of s key = option_map_or (λ node. node.parents) (node_at s key) 0

-- the key is that of the frame's node at the level
pub record IsKeyOf (s : NodeMap) (frame level key : ℕ) : Type 0 where
  pub node : Node
  pub under : node_at s key ≡ Some node
  pub of_frame : node.frame ≡ frame
  pub at_level : node.level ≡ level

-- the frame has no node at the level
abbrev pub IsAbsent : NodeMap → ℕ → ℕ → Type 0
IsAbsent s frame level = (key : ℕ) → IsKeyOf s frame level key → ⊥

-- there is memory for so many more, or for as many as before where that is more
abbrev pub reserved : NodeMap → ℕ → NodeMap
reserved s n = record s { spare = max s.spare n }

-- a node with no parents
abbrev pub new_node : ℕ → ℕ → ℕ → Node
new_node frame level page = record { frame = frame; level = level; page = page; parents = 0 }

-- the nodes as they were, but that this one stands under the key, or none does
abbrev pub with_node : FinMap nat_cmp Node → ℕ → Option Node → FinMap nat_cmp Node
with_node nodes key None = remove nodes key
with_node nodes key (Some node) = insert nodes key node

-- one node more, which takes the memory that was there for it
abbrev pub inserted : NodeMap → ℕ → Node → NodeMap
inserted s key node = record s { nodes = with_node s.nodes key (Some node); spare = s.spare - 1 }

-- one node less, whose memory can serve for another
abbrev pub removed : NodeMap → ℕ → NodeMap
removed s key = record s { nodes = with_node s.nodes key None; spare = s.spare + 1 }

-- the node, if there is one, with this count of parents
abbrev pub recounted : Option Node → ℕ → Option Node
recounted None parents = None
recounted (Some node) parents = Some (record node { parents = parents })

-- the same nodes, but that the one under the key has so many parents
abbrev pub with_parents : NodeMap → ℕ → ℕ → NodeMap
with_parents s key parents = record s { nodes = with_node s.nodes key (recounted (node_at s key) parents) }

-- what such a change means: the key has this node, or none, and each other key has what it had
pub record ChangesNode (old new : NodeMap) (key : ℕ) (node : Option Node) : Type 0 where
  pub changed : node_at new key ≡ node
  pub others : (other : ℕ) → other ≢ key → node_at new other ≡ node_at old other

-- the node is of one of so many frames, at a level from 1 to 6
pub record IsPlaced (frames : ℕ) (node : Node) : Type 0 where
  pub frame : node.frame < frames
  pub low : 1 ≤ node.level
  pub high : node.level ≤ 6

-- What always holds: each node is of a frame of the guest at a level from 1 to 6, and each frame has
-- one node at a level at the most.
pub record AreNodes (s : NodeMap) : Type 0 where
  pub placed : (key : ℕ) (node : Node) → node_at s key ≡ Some node → IsPlaced s.frames node
  pub once : (frame level j k : ℕ) → IsKeyOf s frame level j → IsKeyOf s frame level k → j ≡ k
