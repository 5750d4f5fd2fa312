-- What the code finds at an offset.
use Rattle.std.specs.Prelude.{◌≡◌, ℕ, ◌+◌, ◌-◌, ◌*◌, ◌/◌, ◌<◌, Bool, true, false, ◌&&◌, nat_le, nat_lt, Option, Some, None}
use Rattle.std.specs.List.{find}
use Rattle.gv_types.specs.declared.ids.EngineId.{EngineId}
use Rattle.gv_regs.specs.declared.decode.Register.{Register}
use Rattle.gv_regs.specs.declared.decode.Register.TheVariants as found
use Rattle.gv_regs.specs.declared.effect.Target.{Target}
use Rattle.gv_regs.specs.declared.effect.Target.TheVariants.{Own, Elsp, Status, StatusPointer, General, Absent}
use Rattle.gv_regs.specs.declared.table.Kind.{Kind}
use Rattle.gv_regs.specs.declared.table.Kind.TheVariants.{Plain, Masked, Acknowledges}
use Rattle.gv_regs.specs.declared.table.Row.{Row}
use Rattle.gv_regs.specs.Table.{EngineBlock, engines, kind_at, target_at}
use Rattle.gv_regs.specs.Registers.{slot_of, IsTarget}

-- ---- the code's rows, which hold of one engine or of none

abbrev pub row_covers : Row → ℕ → Bool
row_covers row at = nat_le row.0 at && nat_lt at (row.0 + 4 * row.1)

abbrev pub target_in : Target → EngineId → ℕ → Target
target_in (Elsp other) engine number = Elsp engine
target_in (Status other first) engine number = Status engine number
target_in (StatusPointer other) engine number = StatusPointer engine
target_in (General other first) engine number = General engine number
target_in target engine number = target

abbrev pub register_by : Target → Kind → ℕ → Register
register_by Own kind slot = found.Own kind slot
register_by Absent kind slot = found.Absent
register_by target kind slot = found.Elsewhere target

abbrev pub register_of : Option Row → ℕ → EngineId → ℕ → Register
register_of None at engine first_slot = found.Absent
register_of (Some row) at engine first_slot = register_by (target_in row.3 engine ((at - row.0) / 4)) row.2 (first_slot + row.4 + (at - row.0) / 4)

-- An engine has the 4 KiB from its base on for itself.
abbrev pub stands_in : ℕ → EngineBlock → Bool
stands_in offset e = nat_le e.base offset && nat_lt offset (e.base + 0x1000)

abbrev pub number_in : Option EngineBlock → Option ℕ
number_in None = None
number_in (Some e) = Some e.number

abbrev pub engine_number_at : ℕ → Option ℕ
engine_number_at offset = number_in (find (stands_in offset) engines)

-- ---- what is found, against the register table

-- the offset whose dword a register reads
abbrev pub dword_read_by : Kind → ℕ → Option ℕ
dword_read_by Plain offset = Some offset
dword_read_by Masked offset = Some offset
dword_read_by (Acknowledges request) offset = Some request
dword_read_by kind offset = None

abbrev pub HasSlot : Option ℕ → ℕ → Type 0
HasSlot None slot = Unit {0}
HasSlot (Some at) slot = (slot < 33) × (slot_of at ≡ Some slot)

pub record IsOwn (by : Kind) (slot offset : ℕ) : Type 0 where
  pub target : target_at offset ≡ Own
  pub kind : kind_at offset ≡ by
  pub slot_is : HasSlot (dword_read_by by offset) slot

abbrev pub is_elsewhere : Target → Bool
is_elsewhere Own = false
is_elsewhere Absent = false
is_elsewhere target = true

pub record IsElsewhere (by : Target) (offset : ℕ) : Type 0 where
  pub target : target_at offset ≡ by
  pub other : is_elsewhere by ≡ true
  pub form : IsTarget offset by

abbrev pub StandsAt : ℕ → Register → Type 0
StandsAt offset (found.Own kind slot) = IsOwn kind slot offset
StandsAt offset (found.Elsewhere target) = IsElsewhere target offset
StandsAt offset found.Absent = target_at offset ≡ Absent
