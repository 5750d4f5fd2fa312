-- A private space and a step of the shared device that stand for each other while a command runs.
use Rattle.std.specs.Prelude.{◌≡◌, ℕ, true, false, Option, Some}
use Rattle.gv_entry.specs.Ranges.{owns_page}
use Rattle.gv_entry.specs.SameTables.{SameTables}
use Rattle.gv_gpu.specs.Device.{Device}
use Rattle.gv_gpu.specs.Part.{outside, step_part}
use Rattle.gv_gpu.specs.Step.{Stepping}
use Rattle.gv_guest.specs.Placed.{Placed, Hosts, memory_in}
use Rattle.gv_private.specs.Grants.{page_grant_in}
use Rattle.gv_private.specs.Space.{PrivateSpace}
use Rattle.gv_sggtt.specs.Mirror.{NamesFrame}
use Rattle.gv_shape.specs.Shadow.{Pages}
use Rattle.gv_shape.specs.Shadows.{Shadows}

-- the frame that a page of the space's global table grants
abbrev pub granted : PrivateSpace → ℕ → Option ℕ
granted s page = page_grant_in s.ranges s.entries s.memory s.roots page

-- Where the guest's frames and the nodes of its shadow tables are, the engine, and what the private space and the
-- device were at first.
pub record Setting : Type 0 where
  pub placed : Placed
  pub pages : Pages
  pub engine : ℕ
  pub space : PrivateSpace
  pub start : Device

-- The memory stands in the device, and the shadow tables and the physical entries stand for the guest's own. Of the
-- space only memory and general registers have changed, and no live table; of the device only the guest's frames
-- and the engine's state. Nothing has strayed.
pub record Same (t : Setting) (p : PrivateSpace) (s : Stepping) : Type 0 where
  pub stands : Hosts s.device t.placed
  pub memory : p.memory ≡ memory_in s.device t.placed
  pub rest : p ≡ record (t.space) { memory = p.memory; general = p.general }
  pub tables : SameTables t.space.memory p.memory p.roots
  pub engine : s.engine ≡ t.engine
  pub owner : s.context.owner ≡ t.placed.guest
  pub root : t.pages 4 p.root ≡ Some s.context.root
  pub shadows : Shadows s.device t.placed p.memory p.roots t.pages
  pub mirrors : (page : ℕ) → owns_page t.space.ranges page ≡ true → NamesFrame t.placed (granted p page) (s.device.global page)
  pub general : p.general ≡ s.device.general s.engine
  pub straight : s.strayed ≡ false
  pub outside : outside (step_part t.placed.guest t.engine) s.device ≡ outside (step_part t.placed.guest t.engine) t.start
