-- How what is left of an element stands in the device: by the place of the loaded context, and by the
-- copies in the window.
use Rattle.std.specs.Prelude.{ℕ, ◌*◌, ◌%◌, ◌≡◌, ◌≢◌, true, false, length, Option, None, Some}
use Rattle.std.specs.List.{concat}
use Rattle.gv_cmd.specs.Simulation.{Access}
use Rattle.gv_ctx.specs.declared.saved.Batch.{Batch}
use Rattle.gv_ctx.specs.declared.saved.Saved.{Saved}
use Rattle.gv_fetch.specs.Left.{Level, Fetched, At, Left}
use Rattle.gv_gpu.specs.Device.{Device, Loaded}
use Rattle.gv_gpu.specs.Part.{is_in_windows, shadow_label}
use Rattle.gv_gpu.specs.Physical.{dword_at, write_page}
use Rattle.gv_scan.specs.Layout.{Layout, RingAt, BatchAt}
use Rattle.gv_sring.specs.Copy.{Copied}

-- a batch of a place, and the level that it stands for
abbrev pub LevelAt : Layout → Option Batch → Option Level → Type 0
LevelAt p None None = Unit {0}
LevelAt p None (Some level) = ⊥
LevelAt p (Some b) None = ⊥
LevelAt p (Some b) (Some (Fetched items)) = (b.live ≡ false) × BatchAt p.base p.batches b.at items
LevelAt p (Some b) (Some (At at)) = (b.live ≡ true) × (b.at ≡ at)

-- a place in a program
pub record Follows (p : Layout) (place : Saved) (w : Left) : Type 0 where
  pub ring : RingAt p place.ring w.ring
  pub first : LevelAt p place.first w.first
  pub second : LevelAt p place.second w.second

-- A loaded context whose copies the device holds stands for what is left of an element. A context that
-- isn't loaded does so by its image: it is the one that an engine would load from there.
pub record StandsFor (d : Device) (image : ℕ) (p : Layout) (l : Loaded) (w : Left) : Type 0 where
  pub copied : Copied d l.owner image p l.ring_start
  pub tail : l.tail ≡ 4 * length (concat p.ring)
  pub place : Follows p l.place w

-- What is read of a live batch is the same for the private device.
pub record ReadsSame (d : Device) (root : ℕ) (read : ℕ → ℕ) : Type 0 where
  pub dword : (at : ℕ) → at % 4 ≡ 0 → dword_at d root false at ≡ read at

-- Two devices with the same window entries of a guest and the same shadow pages of the guest's, but for
-- the words of one page.
pub record KeepsShadow (guest image : ℕ) (d e : Device) : Type 0 where
  pub entry : (i : ℕ) → is_in_windows guest i ≡ true → e.global i ≡ d.global i
  pub label : (q : ℕ) → d.label q ≡ Some (shadow_label guest) → e.label q ≡ d.label q
  pub words : (q : ℕ) → d.label q ≡ Some (shadow_label guest) → q ≢ image → e.words q ≡ d.words q

-- Two devices with the same labels and entries, and the same words in all shadow pages of a guest's.
pub record Unchanged (guest : ℕ) (d e : Device) : Type 0 where
  pub label : e.label ≡ d.label
  pub global : e.global ≡ d.global
  pub words : (q : ℕ) → d.label q ≡ Some (shadow_label guest) → e.words q ≡ d.words q

-- An access writes no shadow page of the guest's, whatever was written before to other pages.
abbrev pub GoesElsewhere : ℕ → ℕ → Device → Access → Type 0
GoesElsewhere guest root d a = (e : Device) → Unchanged guest d e → (page : ℕ) → write_page e root a.global a.at ≡ Some page → d.label page ≢ Some (shadow_label guest)
