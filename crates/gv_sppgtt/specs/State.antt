-- The state of the tables as their code holds it.
use Rattle.std.specs.Prelude.{ℕ, ◌+◌, ◌-◌, ◌*◌, ◌/◌, ◌≤◌, ◌≡◌, Bool, true, false, ◌||◌, is_some, List, [], ◌∷◌, flat_map, length, Option, None, Some}
use Rattle.std.specs.FinMap.{keys}
use Rattle.gv_gpu.specs.Device.{Device}
use Rattle.gv_guest.specs.Placed.{Placed}
use Rattle.gv_shape.specs.Shadow.{Pages, Readings}
use Rattle.gv_sppgtt.specs.Sound.{Sound, Pinned, flag, pages_in, parents_in, readings_in}
use Rattle.gv_gpu.specs.Part.{Part, is_shadow_of, tables_part}
use Rattle.gv_nodes.specs.declared.nodes.Node.{Node}
use Rattle.gv_nodes.specs.NodeMap.{NodeMap, node_at}
use Rattle.gv_sppgtt.specs.Grown.{Sketch, count_of}
use Rattle.gv_sppgtt.specs.declared.tables.Tables.{Tables}

abbrev pub pages_of : Tables → Pages
pages_of t = pages_in t.nodes

abbrev pub parents_of : Tables → ℕ → ℕ → ℕ
parents_of t = parents_in t.nodes

abbrev pub readings_of : Device → Tables → Readings
readings_of d t = readings_in d.words t.owners.items (pages_in t.nodes)

-- the tables stand in the device
abbrev pub IsSound : Device → Placed → Tables → Type 0
IsSound d placed t = Sound d placed t.nodes t.chains t.owners.items t.told.items

abbrev pub IsPinned : Device → Placed → Tables → List ℕ → Type 0
IsPinned d placed t pins = (length pins ≡ length placed.pages) × Pinned (length placed.pages) pins (readings_of d t)

abbrev pub sketch_of : Device → Tables → Sketch
sketch_of d t = record { pages = pages_of t; parents = parents_of t; readings = readings_of d t }

-- there is room for all the nodes that a guest can have
abbrev pub HasRoom : Device → Placed → Tables → Type 0
HasRoom d placed t = d.live + (4 * length placed.pages + 64) ≤ 131072 + count_of (length placed.pages) (pages_of t)

-- The live pages besides those of the nodes are as many as before. So where the nodes' pages were counted among the
-- live ones, the live pages changed exactly with the nodes.
pub record LiveFollows (frames : ℕ) (d e : Device) (old new : Pages) : Type 0 where
  pub others : e.live - count_of frames new ≡ d.live - count_of frames old
  pub exact : count_of frames old ≤ d.live → e.live + count_of frames old ≡ d.live + count_of frames new

-- the shadow pages of a guest
abbrev pub shadow_part : ℕ → Part
shadow_part guest = record { page = λ n l. is_shadow_of guest l; entry = λ _. false; engine = λ _. false; spare = false }

-- the pages of the nodes
abbrev pub page_list : Option Node → List ℕ
page_list None = []
page_list (Some node) = node.page ∷ []

unfoldable pub own_in : NodeMap → List ℕ
own_in s = flat_map (λ key. page_list (node_at s key)) (keys s.nodes)

-- these are the part of the device that the tables have
abbrev pub own_part : ℕ → Tables → Part
own_part guest t = tables_part guest (own_in t.nodes)

-- the frame has a node of one of the levels 1 to 4
abbrev pub is_table : Pages → ℕ → Bool
is_table pages frame = is_some (pages 4 frame) || (is_some (pages 3 frame) || (is_some (pages 2 frame) || is_some (pages 1 frame)))

-- the block of a frame is touched, and each block that was
pub record Touches (frame : ℕ) (old new : List Bool) : Type 0 where
  pub here : flag new (frame / 128) ≡ true
  pub kept : (block : ℕ) → flag new block ≡ false → flag old block ≡ false
