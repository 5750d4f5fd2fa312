-- What the layer above sees of the tables, and what holds between its calls.
use Rattle.std.specs.Prelude.{ℕ, ◌+◌, ◌*◌, ◌^◌, ◌<◌, ◌≤◌, ◌≡◌, Bool, true, false, not, ◌&&◌, ◌||◌, ◌==◌, nat_lt, if◌then◌else◌, is_some, List, filter, length, slice_index, Some}
use Rattle.std.specs.List.{range_with_len}
use Rattle.gv_types.specs.Memory.{Memory}
use Rattle.gv_entry.specs.Tables.{frame_words, has_bad_entry}
use Rattle.gv_entry.specs.declared.process.Process.TheVariants.{Page}
use Rattle.gv_gpu.specs.Device.{Device}
use Rattle.gv_gpu.specs.Part.{outside}
use Rattle.gv_guest.specs.Placed.{Placed, Hosts, memory_in}
use Rattle.gv_rmap.specs.declared.leaf.Leaf.{Leaf}
use Rattle.gv_rmap.specs.Chains.{chain_of}
use Rattle.gv_shape.specs.Shadow.{has_leaves, wanted}
use Rattle.gv_shape.specs.Counts.{is_among, leaves}
use Rattle.gv_sppgtt.specs.Sound.{flag}
use Rattle.gv_sppgtt.specs.Grown.{Rests}
use Rattle.gv_sppgtt.specs.State.{pages_of, readings_of, sketch_of, LiveFollows, own_part, is_table}
use Rattle.gv_sppgtt.specs.Holding.{Holds}
use Rattle.gv_sppgtt.specs.declared.tables.Tables.{Tables}

-- the roots, in rising order: the frames that have a node of level 4
unfoldable pub roots_of : Tables → List ℕ
roots_of t = filter (λ frame. is_some (pages_of t 4 frame)) (range_with_len 0 t.nodes.frames)

-- the frames that the caller knows to be guarded
abbrev pub guarded_of : Tables → ℕ → Bool
guarded_of t frame = flag t.told.items frame

-- the leaves that map a frame, by their keys
abbrev pub chain_in : Tables → ℕ → List Leaf
chain_in t frame = chain_of t.chains frame

-- A leaf is the word of a table of leaves whose entry, in the guest's own tables or as a place in one of their large
-- pages, maps the frame.
pub record IsMapping (m : Memory) (t : Tables) (level table frame : ℕ) (leaf : Leaf) : Type 0 where
  pub leaves : has_leaves level ≡ true
  pub node : pages_of t level table ≡ Some leaf.page
  pub within : leaf.index < 512
  pub maps : wanted m level table leaf.index ≡ Page frame leaf.writable

-- The shadow tables stand in the device for these words of memory: nothing is left to do for any word, and the
-- caller was told of each frame that is a table.
pub record Serves (d : Device) (placed : Placed) (pins : List ℕ) (t : Tables) (m : Memory) : Type 0 where
  pub holds : Holds d placed t pins
  pub rests : Rests (length placed.pages) m (roots_of t) 0 0 0 (sketch_of d t)
  pub told : (frame : ℕ) → guarded_of t frame ≡ is_table (pages_of t) frame
  pub untouched : (block : ℕ) → flag t.touched block ≡ false

-- What a call leaves, whatever it answers: memory, and all of the device but the nodes' pages. Live pages move with
-- the nodes, and pins with the leaves.
pub record ChangesTables (placed : Placed) (d e : Device) (t u : Tables) (held moved : List ℕ) : Type 0 where
  pub memory : memory_in e placed ≡ memory_in d placed
  pub others : outside (own_part placed.guest u) e ≡ outside (own_part placed.guest t) d
  pub live : LiveFollows (length placed.pages) d e (pages_of t) (pages_of u)
  pub guest : u.guest ≡ t.guest
  pub pins : (h : ℕ) → slice_index moved h + leaves (length placed.pages) (readings_of d t) h ≡ slice_index held h + leaves (length placed.pages) (readings_of e u) h

-- the frames whose guarding changed, each once and rising
pub record Tells (before after : ℕ → Bool) (frames : ℕ) (came went : List ℕ) : Type 0 where
  pub guarded : came ≡ filter (λ frame. not (before frame) && after frame) (range_with_len 0 frames)
  pub unguarded : went ≡ filter (λ frame. before frame && not (after frame)) (range_with_len 0 frames)

-- these roots and another one, in rising order
abbrev pub with_root : ℕ → List ℕ → ℕ → List ℕ
with_root frames roots root = filter (λ frame. (root == frame) || is_among roots frame) (range_with_len 0 frames)

abbrev pub without_root : List ℕ → ℕ → List ℕ
without_root roots root = filter (λ frame. not (frame == root)) roots

-- a frame isn't in memory, or as a root it would give a live table a bad entry
abbrev pub is_refused : Memory → List ℕ → ℕ → Bool
is_refused m roots root = not (nat_lt root (length m)) || has_bad_entry m (with_root (length m) roots root)

-- in n one word of a frame is another than in m
pub record ChangedAt (m n : Memory) (frame index : ℕ) : Type 0 where
  pub frames : length n ≡ length m
  pub others : (f i : ℕ) → (f ≡ frame → i ≡ index → ⊥) → slice_index (frame_words n f) i ≡ slice_index (frame_words m f) i

-- how many frames the guest has
abbrev pub frames_of : Tables → ℕ
frames_of t = t.nodes.frames

-- the levels from 1 to 4 at which a frame has a node, as the bits of a number, bit 0 for level 1
abbrev pub bit_if : Bool → ℕ → ℕ
bit_if live bit = if live then bit else 0

abbrev pub roles_of : Tables → ℕ → ℕ
roles_of t frame = bit_if (is_some (pages_of t 1 frame)) 1 + bit_if (is_some (pages_of t 2 frame)) 2 + bit_if (is_some (pages_of t 3 frame)) 4 + bit_if (is_some (pages_of t 4 frame)) 8

-- A memory of so many frames stands in the device for the guest, with few pins, and there is room for as many
-- pages as the tables can have.
pub record IsReady (guest frames : ℕ) (d : Device) (placed : Placed) (pins : List ℕ) : Type 0 where
  pub stands : Hosts d placed
  pub owner : placed.guest ≡ guest
  pub long : length placed.pages ≡ frames
  pub counted : length pins ≡ length placed.pages
  pub few : (h : ℕ) → h < length placed.pages → slice_index pins h ≤ 2 ^ 24
  pub room : d.live + (4 * frames + 64) ≤ 131072
