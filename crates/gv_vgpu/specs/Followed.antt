-- What an engine reaches through the shared device is what the guest's own tables grant.
use Rattle.std.specs.Prelude.{◌≡◌, ℕ, ◌+◌, ◌<◌, Bool, true, Option, None, Some, length, slice_index}
use Rattle.gv_element.specs.Works.{Held, context_now}
use Rattle.gv_entry.specs.Ranges.{owns_page}
use Rattle.gv_gpu.specs.Device.{Device}
use Rattle.gv_gtt.specs.Gtt.{frames_of, leaves_of, nodes_in, number_of}
use Rattle.gv_private.specs.Device.{PrivateDevice}
use Rattle.gv_private.specs.Grants.{page_grant}
use Rattle.gv_sggtt.specs.Mirror.{NamesFrame}
use Rattle.gv_sggtt.specs.Pins.{table_pins}
use Rattle.gv_shape.specs.Shadows.{AreLiveTables, Reaches}
use Rattle.gv_sppgtt.specs.Laws.{ChainsMappings, CountsNamings}
use Rattle.gv_vgpu.specs.Vgpu.{engine_at, pins_of, private_of}
use Rattle.gv_vgpu.specs.Standing.{Holds}
use Rattle.gv_vgpu.specs.declared.vgpu.Vgpu.{Vgpu}

-- Through the shadow page of each root, what is read and written is what the guest's tables grant; and so it is through
-- the physical entry of each page of the global table that the guest owns. There is a shadow table exactly for each live
-- table and each split key, with a count of the words that name it; and each frame has a chain of the words that map it.
-- Its pins are these, and the owned entries that grant it.
pub record FollowsTables (d : Device) (v : Vgpu) (p : PrivateDevice) : Type 0 where
  pub roots : (root page : ℕ) → nodes_in v.gtt 4 root ≡ Some page → Reaches d (frames_of v.gtt) p.memory p.roots root page
  pub entries : (page : ℕ) → owns_page p.ranges page ≡ true → NamesFrame (frames_of v.gtt) (page_grant p page) (d.global page)
  pub tables : AreLiveTables p.memory p.roots (nodes_in v.gtt)
  pub counts : CountsNamings d (frames_of v.gtt) v.gtt.tables
  pub chains : ChainsMappings d (frames_of v.gtt) v.gtt.tables
  pub pins : (frame : ℕ) → frame < length p.memory → slice_index (pins_of v.gtt) frame ≡ table_pins v.gtt.table frame + leaves_of d v.gtt frame

abbrev pub TablesAreFollowed : Type 0
TablesAreFollowed = (d : Device) (v : Vgpu) (here : ℕ → Bool) → Holds d v here → FollowsTables d v (private_of d v here)

-- On an engine that the guest owns the context of its element is loaded, and none where it has no element.
abbrev pub IsLoadedFor : Device → ℕ → ℕ → Option Held → Type 0
IsLoadedFor d guest engine None = d.loaded engine ≡ None
IsLoadedFor d guest engine (Some x) = d.loaded engine ≡ Some (context_now d guest engine true)

abbrev pub ElementsAreLoaded : Type 0
ElementsAreLoaded = (d : Device) (v : Vgpu) (here : ℕ → Bool) (engine : ℕ) → Holds d v here → engine < 4 → here engine ≡ true → IsLoadedFor d (number_of v.gtt) engine (engine_at v engine).element
