-- What a call that is given the device changes of it.
use Rattle.std.specs.Prelude.{◌≡◌, ℕ, ◌+◌, ◌≤◌, List, ◌++◌}
use Rattle.gv_gpu.specs.Device.{Device, JournalEntry}
use Rattle.gv_gpu.specs.Part.{Part, outside, inside}

-- Of two devices, one after the other, this part alone changed, by so many pokes at the most. As many pages are
-- live. No command ran, no step strayed, and no fault was counted, since these belong to no part. A call that may
-- fail says this of the device before it with the faults of the one after it.
pub record ChangesOnly (part : Part) (most : ℕ) (before after : Device) : Type 0 where
  pub outside : outside part after ≡ outside part before
  pub live : after.live ≡ before.live
  pub pokes : after.pokes ≤ before.pokes + most

-- this part is as it was
pub record Leaves (part : Part) (before after : Device) : Type 0 where
  pub same : inside part after ≡ inside part before

-- ---- what ran

-- These commands ran, and no step touched a page of another guest.
pub record Ran (before after : Device) (commands : List JournalEntry) : Type 0 where
  pub journal : after.journal ≡ before.journal ++ commands
  pub strays : after.strays ≡ before.strays

-- Of these commands a front ran, up to those that are left.
pub record RanUpTo (before after : Device) (left whole : List JournalEntry) : Type 0 where
  pub done : List JournalEntry
  pub ran : Ran before after done
  pub front : done ++ left ≡ whole

-- a front of these commands ran
pub record RanPart (before after : Device) (whole : List JournalEntry) : Type 0 where
  pub left : List JournalEntry
  pub part : RanUpTo before after left whole
