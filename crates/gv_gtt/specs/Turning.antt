-- Frames of which the global table is told, one after another.
use Rattle.std.specs.Prelude.{ℕ, ◌≡◌, ◌<◌, Bool, false, not, if◌then◌else◌, List, [], ◌∷◌, length, slice_index}
use Rattle.gv_gpu.specs.Device.{Device}
use Rattle.gv_sggtt.specs.Table.{guards}
use Rattle.gv_shape.specs.Counts.{is_among}
use Rattle.gv_gtt.specs.Changes.{ChangesTable}
use Rattle.gv_gtt.specs.Standing.{Serving}
use Rattle.gv_gtt.specs.declared.gtt.Gtt.{Gtt}

-- no number comes twice
abbrev pub AreOnce : List ℕ → Type 0
AreOnce [] = Unit {0}
AreOnce (x ∷ xs) = (is_among xs x ≡ false) × AreOnce xs

-- Each of these frames is in memory, comes once, and is guarded where it is no longer to be, or the other way.
pub record MayTurn (g : Gtt) (frames : List ℕ) (guarded : Bool) : Type 0 where
  pub once : AreOnce frames
  pub within : (k : ℕ) → k < length frames → slice_index frames k < g.table.frames
  pub turns : (k : ℕ) → k < length frames → guards g.table.guarded (slice_index frames k) ≡ not guarded

-- These frames are guarded, or no longer, and nothing else changed but the global table.
pub record Turned (d e : Device) (old new : Gtt) (frames : List ℕ) (guarded : Bool) : Type 0 where
  pub serving : Serving e new
  pub guards : (frame : ℕ) → guards new.table.guarded frame ≡ (if is_among frames frame then guarded else guards old.table.guarded frame)
  pub entries : new.table.entries ≡ old.table.entries
  pub changes : ChangesTable d e old new
