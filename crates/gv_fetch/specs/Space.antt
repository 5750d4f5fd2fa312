-- A guest's global space, by its ranges, its memory and the entries of its global table. A page that is
-- owned and gives no grant reads as zeros.
use Rattle.std.specs.Prelude.{ℕ, ◌+◌, ◌*◌, ◌/◌, ◌%◌, Bool, List, length, Option, None, Some}
use Rattle.gv_types.specs.Memory.{Memory, value_at}
use Rattle.gv_types.specs.declared.event.Width.TheVariants.{Four}
use Rattle.gv_types.specs.declared.ranges.Ranges.{Ranges}
use Rattle.gv_entry.specs.Global.{global_entry}
use Rattle.gv_entry.specs.Grants.{global_grant}
use Rattle.gv_entry.specs.Ranges.{owns_page}
use Rattle.gv_fetch.specs.Fetch.{GlobalSpace}

-- the dword at an address, in the frame that its page grants
abbrev pub dword_in : Memory → Option ℕ → ℕ → ℕ
dword_in m None at = 0
dword_in m (Some frame) at = value_at m Four (frame * 4096 + at % 4096)

abbrev pub guest_space : Ranges → Memory → (ℕ → Bool) → List ℕ → GlobalSpace
guest_space ranges m guarded entries = record {
  owned = owns_page ranges;
  word = λ at. dword_in m (global_grant ranges (length m) guarded (global_entry ranges entries) (at / 4096)) at;
}
