-- What every call that is given the device needs and leaves, in one fact each.
use Rattle.std.specs.Prelude.{ℕ, ◌+◌, ◌/◌, ◌≤◌, ◌≡◌, false, List, length, slice_index}
use Rattle.gv_gpu.specs.Device.{Device}
use Rattle.gv_gpu.specs.Part.{outside}
use Rattle.gv_guest.specs.Placed.{Placed, Hosts, memory_in}
use Rattle.gv_nodes.specs.NodeMap.{AreNodes}
use Rattle.gv_sppgtt.specs.State.{IsSound, IsPinned, HasRoom, LiveFollows, own_part, is_table, pages_of, readings_of}
use Rattle.gv_shape.specs.Counts.{leaves}
use Rattle.gv_sppgtt.specs.Sound.{flag}
use Rattle.gv_sppgtt.specs.declared.tables.Tables.{Tables}

pub record Holds (d : Device) (placed : Placed) (t : Tables) (pins : List ℕ) : Type 0 where
  pub stands : Hosts d placed
  pub sound : IsSound d placed t
  pub pinned : IsPinned d placed t pins
  pub guest : t.guest.0 ≡ placed.guest
  pub few : length placed.pages ≤ 16384
  pub nodes : AreNodes t.nodes
  pub room : HasRoom d placed t

-- Memory is as it was, and so is all of the device but the nodes' pages, and what the caller was told. Live pages
-- move with the nodes, and pins with the leaves; and outside of touched blocks each frame is a table as before.
pub record Keeps (placed : Placed) (d e : Device) (t u : Tables) (held moved : List ℕ) : Type 0 where
  pub memory : memory_in e placed ≡ memory_in d placed
  pub outside : outside (own_part placed.guest u) e ≡ outside (own_part placed.guest t) d
  pub live : LiveFollows (length placed.pages) d e (pages_of t) (pages_of u)
  pub guest : u.guest ≡ t.guest
  pub told : u.told ≡ t.told
  pub pins : (h : ℕ) → slice_index moved h + leaves (length placed.pages) (readings_of d t) h ≡ slice_index held h + leaves (length placed.pages) (readings_of e u) h
  pub blocks : (block : ℕ) → flag u.touched block ≡ false → flag t.touched block ≡ false
  pub tables : (frame : ℕ) → flag u.touched (frame / 128) ≡ false → is_table (pages_of u) frame ≡ is_table (pages_of t) frame
