-- Items all of whose global operands are on owned pages. A start has none.
use Rattle.std.specs.Prelude.{true, ◌≡◌, Option, None, Some}
use Rattle.gv_types.specs.declared.ranges.Ranges.{Ranges}
use Rattle.gv_cmd.specs.Simulation.{Access}
use Rattle.gv_entry.specs.Ranges.{owns_page}
use Rattle.gv_fetch.specs.Items.{Items, none, command, batch}
use Rattle.gv_fetch.specs.Fetch.{GlobalSpace, owns_operands, owns_access}
use Rattle.gv_fetch.specs.Left.{Level, Fetched, At, Left}

abbrev pub AllOwned : GlobalSpace → Items → Type 0
AllOwned space none = Unit {0}
AllOwned space (command ws more) = (owns_operands space ws ≡ true) × AllOwned space more
AllOwned space (batch ws items more) = AllOwned space items × AllOwned space more

-- an access that is per process, or on an owned page
abbrev pub MayAccess : GlobalSpace → Access → Type 0
MayAccess space a = owns_access space a ≡ true

-- ---- what is left of an element

-- the global space of these ranges, as far as ownership goes: what it holds doesn't count
abbrev pub owned_space : Ranges → GlobalSpace
owned_space ranges = record { owned = owns_page ranges; word = λ at. 0 }

-- each global operand of the commands that are left of a fetched batch; a live one has none
abbrev pub OwnsLevel : Ranges → Option Level → Type 0
OwnsLevel ranges None = Unit {0}
OwnsLevel ranges (Some (Fetched items)) = AllOwned (owned_space ranges) items
OwnsLevel ranges (Some (At at)) = Unit {0}

-- What is left of an element makes global accesses on owned pages alone.
pub record OwnsLeft (ranges : Ranges) (w : Left) : Type 0 where
  pub ring : AllOwned (owned_space ranges) w.ring
  pub first : OwnsLevel ranges w.first
  pub second : OwnsLevel ranges w.second
