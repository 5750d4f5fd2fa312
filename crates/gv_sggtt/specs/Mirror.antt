-- The physical entries of a guest's ranges are those of its table: each names the host page of the frame
-- that it grants, present and writable, or is absent.
use Rattle.std.specs.Prelude.{◌≡◌, ℕ, ◌+◌, ◌*◌, ◌%◌, Bool, true, false, List, Option, None, Some, slice_index}
use Rattle.gv_types.specs.declared.ranges.Ranges.{Ranges}
use Rattle.gv_entry.specs.Global.{global_entry}
use Rattle.gv_entry.specs.Ranges.{owns_page}
use Rattle.gv_gpu.specs.Device.{Device}
use Rattle.gv_guest.specs.Placed.{Placed}
use Rattle.gv_sggtt.specs.Linked.{names}
use Rattle.gv_sggtt.specs.Table.{Table, table_grant}

-- Bit 0 says present, bit 1 writable, and the host page stands from bit 12 on.
abbrev pub IsAbsent : ℕ → Type 0
IsAbsent entry = entry % 2 ≡ 0

abbrev pub NamesFrame : Placed → Option ℕ → ℕ → Type 0
NamesFrame placed None entry = IsAbsent entry
NamesFrame placed (Some frame) entry = entry ≡ slice_index placed.pages frame * 4096 + 3

-- the entries of a guest's ranges are absent
pub record AreAbsent (d : Device) (ranges : Ranges) : Type 0 where
  pub each : (page : ℕ) → owns_page ranges page ≡ true → IsAbsent (d.global page)

pub record Mirrors (d : Device) (t : Table) (placed : Placed) : Type 0 where
  pub each : (page : ℕ) → owns_page t.ranges page ≡ true → NamesFrame placed (table_grant t page) (d.global page)

-- Whether a page's entry names the frame.
abbrev pub page_names : Ranges → List ℕ → ℕ → ℕ → ℕ → Bool
page_names ranges entries frames frame page = names frames frame (global_entry ranges entries page)

-- The physical entries of the pages whose entries name a frame are this one, and all others are as before.
pub record SetsEntries (ranges : Ranges) (entries : List ℕ) (frames frame entry : ℕ) (before after : Device) : Type 0 where
  pub here : (page : ℕ) → page_names ranges entries frames frame page ≡ true → after.global page ≡ entry
  pub others : (page : ℕ) → page_names ranges entries frames frame page ≡ false → after.global page ≡ before.global page
