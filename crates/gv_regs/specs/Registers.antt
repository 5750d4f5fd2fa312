-- The register file of a guest's device: a map from offsets to dwords. It holds the registers that this
-- part of the device serves itself and that can be written.
use Rattle.std.specs.Prelude.{◌≡◌, ℕ, zero, suc, ◌+◌, ◌-◌, ◌*◌, ◌/◌, ◌^◌, ◌<◌, ◌≤◌, Bool, true, false, ◌==◌, ◌&&◌, if◌then◌else◌, List, [], ◌∷◌, slice_index, position, Option, Some, None, bit_and, bit_or, IsTrue}
use Rattle.std.specs.Int.{bit_at}
use Rattle.std.specs.List.{flat_map}
use Rattle.gv_types.specs.declared.ranges.Ranges.{Ranges}
use Rattle.gv_types.specs.declared.ranges.Span.{Span}
use Rattle.gv_regs.specs.declared.constant.Constant.{Constant}
use Rattle.gv_regs.specs.declared.constant.Constant.TheVariants.{Number, GuestNumber, LowBase, LowSize, HighBase, HighSize}
use Rattle.gv_regs.specs.declared.effect.Target.{Target}
use Rattle.gv_regs.specs.declared.effect.Target.TheVariants.{Own, Elsp, Status, StatusPointer, General, Interrupts, Absent}
use Rattle.gv_regs.specs.declared.effect.Effect.{Effect}
use Rattle.gv_regs.specs.declared.effect.Effect.TheVariants.{Kept, Nothing, Goes}
use Rattle.gv_regs.specs.declared.effect.Lookup.{Lookup}
use Rattle.gv_regs.specs.declared.effect.Lookup.TheVariants as found
use Rattle.gv_regs.specs.declared.table.Kind.{Kind}
use Rattle.gv_regs.specs.declared.table.Kind.TheVariants.{Plain, Masked, Acknowledges, Fixed}
use Rattle.gv_irq.specs.Irq.{is_interrupt_register}
use Rattle.gv_regs.specs.Table.{Row, registers, kind_at, target_at, reset_at, engine_at}

abbrev pub is_own : Target → Bool
is_own Own = true
is_own target = false

abbrev pub is_written : Kind → Bool
is_written Plain = true
is_written Masked = true
is_written kind = false

-- whether the map holds the register
abbrev pub keeps : ℕ → Bool
keeps offset = is_own (target_at offset) && is_written (kind_at offset)

-- ---- constants

-- Base and size of a range in bytes. The base of an empty range reads 0.
abbrev pub base_of : Span → ℕ
base_of span = if span.pages == 0 then 0 else span.first * 4096

abbrev pub size_of : Span → ℕ
size_of span = span.pages * 4096

abbrev pub value_of : ℕ → Ranges → Constant → ℕ
value_of guest ranges (Number n) = n
value_of guest ranges GuestNumber = guest + 1
value_of guest ranges LowBase = base_of ranges.low
value_of guest ranges LowSize = size_of ranges.low
value_of guest ranges HighBase = base_of ranges.high
value_of guest ranges HighSize = size_of ranges.high

-- ---- reading

abbrev pub own_read : ℕ → Ranges → (ℕ → ℕ) → ℕ → Kind → ℕ
own_read guest ranges map offset Plain = map offset
own_read guest ranges map offset Masked = map offset
own_read guest ranges map offset (Acknowledges request) = map request
own_read guest ranges map offset (Fixed constant) = value_of guest ranges constant
own_read guest ranges map offset kind = 0

-- A register that another part serves reads 0 here.
abbrev pub register_read : ℕ → Ranges → (ℕ → ℕ) → ℕ → ℕ
register_read guest ranges map offset = if is_own (target_at offset) then own_read guest ranges map offset (kind_at offset) else 0

-- What is found at an offset: a value, or that another part of the device serves the register.
abbrev pub found_by : Target → ℕ → Lookup
found_by Own value = found.Value value
found_by Absent value = found.Value 0
found_by target value = found.Goes target

abbrev pub found_at : ℕ → Ranges → (ℕ → ℕ) → ℕ → Lookup
found_at guest ranges map offset = found_by (target_at offset) (own_read guest ranges map offset (kind_at offset))

-- ---- writing

-- the 16 bits that a masked register keeps: those of the value where its upper half has ones, else the old
abbrev pub masked : ℕ → ℕ → ℕ
masked old value = bit_or (bit_and old (0xFFFF - value / 2 ^ 16)) (bit_and value (value / 2 ^ 16))

-- what that means, bit by bit
abbrev pub HasMaskedBits : ℕ → ℕ → ℕ → Type 0
HasMaskedBits old value new = (bit : ℕ) → bit < 16 → bit_at new bit ≡ (if bit_at value (bit + 16) == 1 then bit_at value bit else bit_at old bit)

abbrev pub dword_after : Kind → ℕ → ℕ → ℕ
dword_after Masked old value = masked old value
dword_after kind old value = value

abbrev pub with_register : (ℕ → ℕ) → ℕ → ℕ → ℕ → ℕ
with_register map offset value at = if offset == at then value else map at

abbrev pub register_written : (ℕ → ℕ) → ℕ → ℕ → ℕ → ℕ
register_written map offset value = if keeps offset then with_register map offset (dword_after (kind_at offset) (map offset) value) else map

-- what became of a write: it was kept, it did nothing, or it goes to another part of the device
abbrev pub effect_of : Target → Kind → Effect
effect_of Own kind = if is_written kind then Kept else Nothing
effect_of Absent kind = Nothing
effect_of target kind = Goes target

abbrev pub effect_at : ℕ → Effect
effect_at offset = effect_of (target_at offset) (kind_at offset)

-- ---- resets

-- Every register has its reset value.
abbrev pub reset_registers : ℕ → ℕ
reset_registers offset = if keeps offset then reset_at offset else 0

abbrev pub is_number : ℕ → Option ℕ → Bool
is_number n None = false
is_number n (Some m) = m == n

-- The registers of one engine have their reset values.
abbrev pub engine_reset : ℕ → (ℕ → ℕ) → ℕ → ℕ
engine_reset engine map offset = if keeps offset && is_number engine (engine_at offset) then reset_at offset else map offset

-- ---- what a target says

-- An engine is one of four. There are twelve dwords of status pairs, and 32 of general registers. What goes to
-- the interrupts is one of their registers.
abbrev pub IsTarget : ℕ → Target → Type 0
IsTarget offset (Elsp engine) = engine.0 < 4
IsTarget offset (Status engine number) = (engine.0 < 4) × (number < 12)
IsTarget offset (StatusPointer engine) = engine.0 < 4
IsTarget offset (General engine number) = (engine.0 < 4) × (number < 32)
IsTarget offset Interrupts = IsTrue (is_interrupt_register offset)
IsTarget offset target = Unit {0}

-- Where a write or a read goes elsewhere, it goes to the offset's target.
abbrev pub IsEffect : ℕ → Effect → Type 0
IsEffect offset (Goes target) = (target_at offset ≡ target) × IsTarget offset target
IsEffect offset effect = Unit {0}

abbrev pub IsFound : ℕ → Lookup → Type 0
IsFound offset (found.Goes target) = (target_at offset ≡ target) × IsTarget offset target
IsFound offset value = Unit {0}

-- A write that isn't kept leaves the map.
abbrev pub IsLeft : Effect → (ℕ → ℕ) → (ℕ → ℕ) → Type 0
IsLeft Kept old new = Unit {0}
IsLeft effect old new = new ≡ old

-- ---- how the map is held

-- the offsets of a row's dwords
abbrev pub offsets_from : ℕ → ℕ → List ℕ
offsets_from first zero = []
offsets_from first (suc more) = first ∷ offsets_from (first + 4) more

abbrev pub kept_in_row : Row → List ℕ
kept_in_row row = if is_own (row.target 0) && is_written row.kind then offsets_from row.first row.dwords else []

-- The offsets of the registers that the map holds, in the table's order.
unfoldable pub kept_offsets : List ℕ
kept_offsets = flat_map kept_in_row registers

-- where the register of an offset stands among them
unfoldable pub slot_of : ℕ → Option ℕ
slot_of offset = position (λ at. at == offset) kept_offsets

abbrev pub dword_in : List ℕ → Option ℕ → ℕ
dword_in dwords None = 0
dword_in dwords (Some slot) = slice_index dwords slot

pub record RegisterFile : Type 0 where
  pub guest : ℕ
  pub ranges : Ranges
  pub kept : List ℕ  -- the dwords at `kept_offsets`

abbrev pub map_of : RegisterFile → ℕ → ℕ
map_of file offset = dword_in file.kept (slot_of offset)

-- What always holds: the ranges lie in the two parts of the global table, so that base and size are dwords.
pub record AreRanges (ranges : Ranges) : Type 0 where
  pub low : ranges.low.first + ranges.low.pages ≤ 65536
  pub high : ranges.high.first + ranges.high.pages ≤ 1032192
