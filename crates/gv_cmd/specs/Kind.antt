-- Which lengths and fields the command table can give.
use Rattle.std.specs.Prelude.{ℕ, ◌≡◌, ◌%◌, ◌^◌, ◌<◌, ◌≤◌, ◌==◌, ◌||◌, true, List, Option, None, Some}
use Rattle.gv_cmd.specs.declared.blit.Blit.{Blit}
use Rattle.gv_cmd.specs.declared.kind.PostWrite.{PostWrite}
use Rattle.gv_cmd.specs.declared.kind.Kind.{Kind}
use Rattle.gv_cmd.specs.declared.kind.Kind.TheVariants.{SemaphoreWait, Store, LoadRegisters, StoreRegister, LoadRegister, MoveRegister, CopyMemory, Flush, PipeControl, BatchStart, ColourBlit, CopyBlit}
use Rattle.gv_cmd.specs.Table.{pair_count}

abbrev pub IsLength : ℕ → Type 0
IsLength n = (1 ≤ n) × (n ≤ 65)

-- an address of a dword in 48 bits
abbrev pub IsDwordAddress : ℕ → Type 0
IsDwordAddress at = (at % 4 ≡ 0) × (at < 2 ^ 48)

abbrev pub IsRegister : ℕ → Type 0
IsRegister register = (register % 4 ≡ 0) × (register < 2 ^ 23)

abbrev pub IsPostWrite : Option PostWrite → Type 0
IsPostWrite None = Unit {0}
IsPostWrite (Some w) = (w.at % 8 ≡ 0) × (w.at < 2 ^ 48)

-- a pixel has 1, 2 or 4 bytes, and no coordinate is above 4096
pub record IsBlit (b : Blit) : Type 0 where
  pub bytes : (b.bytes == 1 || b.bytes == 2 || b.bytes == 4) ≡ true
  pub x1 : b.x1 ≤ 4096
  pub y1 : b.y1 ≤ 4096
  pub x2 : b.x2 ≤ 4096
  pub y2 : b.y2 ≤ 4096
  pub from_x : b.from_x ≤ 4096
  pub from_y : b.from_y ≤ 4096

-- the fields that a command with these dwords can have
abbrev pub IsKindOf : List ℕ → Kind → Type 0
IsKindOf ws (SemaphoreWait global compare operand at) = (compare < 8) × IsDwordAddress at
IsKindOf ws (Store global at low high) = IsDwordAddress at
IsKindOf ws (LoadRegisters pairs) = pairs ≡ pair_count ws
IsKindOf ws (StoreRegister global register at) = IsRegister register × IsDwordAddress at
IsKindOf ws (LoadRegister global register at) = IsRegister register × IsDwordAddress at
IsKindOf ws (MoveRegister from to) = IsRegister from × IsRegister to
IsKindOf ws (CopyMemory from_global from to_global to) = IsDwordAddress from × IsDwordAddress to
IsKindOf ws (Flush write) = IsPostWrite write
IsKindOf ws (PipeControl notify write) = IsPostWrite write
IsKindOf ws (BatchStart live second at) = IsDwordAddress at
IsKindOf ws (ColourBlit b) = IsBlit b
IsKindOf ws (CopyBlit b) = IsBlit b
IsKindOf ws kind = Unit {0}
