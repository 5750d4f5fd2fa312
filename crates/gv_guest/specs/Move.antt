-- A frame goes into another host page.
use Rattle.std.specs.Prelude.{◌≡◌, ◌≢◌, ℕ, ◌+◌, ◌≤◌, length, slice_index, None, Result, Ok, Err}
use Rattle.gv_types.specs.Maps.{put}
use Rattle.gv_types.specs.declared.memory.OutOfMemory.{OutOfMemory}
use Rattle.gv_gpu.specs.Device.{Device}
use Rattle.gv_guest.specs.Placed.{Placed}
use Rattle.gv_guest.specs.declared.page_move.PageMove.{PageMove}
use Rattle.gv_guest.specs.declared.page_move.PageMove.TheVariants.{Kept, Moved}

-- what holds where the page moved, and where it didn't
abbrev pub IfMoved : Result PageMove OutOfMemory → Type 0 → Type 0
IfMoved (Ok Moved) P = P
IfMoved (Ok Kept) P = Unit {0}
IfMoved (Err e) P = Unit {0}

abbrev pub UnlessMoved : Result PageMove OutOfMemory → Type 0 → Type 0
UnlessMoved (Ok Moved) P = Unit {0}
UnlessMoved (Ok Kept) P = P
UnlessMoved (Err e) P = P

-- The frame stands in a page of another number, and its old page isn't live any more. Every other frame
-- stays where it is.
pub record MovesFrame (old new : Placed) (frame : ℕ) (after : Device) : Type 0 where
  pub guest : new.guest ≡ old.guest
  pub frames : length new.pages ≡ length old.pages
  pub page : slice_index new.pages frame ≢ slice_index old.pages frame
  pub others : (k : ℕ) → k ≢ frame → slice_index new.pages k ≡ slice_index old.pages k
  pub released : after.label (slice_index old.pages frame) ≡ None

-- one page has the words of another
pub record CopiesPage (before after : Device) (from to : ℕ) : Type 0 where
  pub words : after ≡ record before { words = put before.words to (before.words from); pokes = after.pokes }
  pub pokes : after.pokes ≤ before.pokes + 512
