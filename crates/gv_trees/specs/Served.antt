-- What holds of a guest's memory and its shadow tables between calls.
use Rattle.std.specs.Prelude.{ℕ, ◌≡◌, true, false, Some}
use Rattle.gv_gpu.specs.Device.{Device}
use Rattle.gv_gpu.specs.Part.{is_named, is_shadow_of}
use Rattle.gv_guest.specs.Placed.{memory_in}
use Rattle.gv_guest.specs.declared.memory.Memory.{Memory}
use Rattle.gv_shape.specs.Counts.{rank}
use Rattle.gv_sppgtt.specs.State.{own_in, pages_of}
use Rattle.gv_sppgtt.specs.Holding.{Holds}
use Rattle.gv_sppgtt.specs.Serving.{Serves}
use Rattle.gv_sppgtt.specs.declared.tables.Tables.{Tables}

-- each shadow page of the guest is that of a node
pub record OwnsShadows (d : Device) (guest : ℕ) (t : Tables) : Type 0 where
  pub each : (n : ℕ) → is_shadow_of guest (d.label n) ≡ true → is_named (own_in t.nodes) n ≡ true

-- The tables serve the memory that stands, and there are no other shadow pages.
pub record IsServed (d : Device) (memory : Memory) (t : Tables) : Type 0 where
  pub serves : Serves d memory.frames memory.pins t (memory_in d memory.frames)
  pub own : OwnsShadows d memory.frames.guest t

-- what a call that failed leaves
pub record IsHeld (d : Device) (memory : Memory) (t : Tables) : Type 0 where
  pub holds : Holds d memory.frames t memory.pins
  pub own : OwnsShadows d memory.frames.guest t

-- no page is labelled as a shadow page of the guest
abbrev pub HasNoShadows : Device → ℕ → Type 0
HasNoShadows d guest = (n : ℕ) → is_shadow_of guest (d.label n) ≡ false

-- The page is that of a node so many levels above the pages that it maps. Split tables are of level 1 so.
pub record IsTable (t : Tables) (level page : ℕ) : Type 0 where
  pub node : ℕ
  pub frame : ℕ
  pub ranked : rank node ≡ level
  pub stands : pages_of t node frame ≡ Some page
