-- The register table: which registers a guest's device has, by offset in bytes. An offset of no row is
-- absent, and so is one that isn't a multiple of 4.
use Rattle.std.specs.Prelude.{ℕ, ◌+◌, ◌-◌, ◌*◌, ◌/◌, ◌%◌, Bool, map, ◌==◌, ◌&&◌, ◌||◌, nat_le, nat_lt, if◌then◌else◌, List, [], ◌∷◌, ◌++◌, Option, Some, None}
use Rattle.std.specs.List.{find, flat_map}
use Rattle.gv_types.specs.Engines.{register_base}
use Rattle.gv_types.specs.Bits.{has_bit}
use Rattle.gv_types.specs.declared.ids.EngineId.{EngineId}
use Rattle.gv_regs.specs.declared.effect.Target.{Target}
use Rattle.gv_regs.specs.declared.effect.Target.TheVariants.{Own, Elsp, Status, StatusPointer, General, Interrupts, EngineReset, Notify, Absent}
use Rattle.gv_regs.specs.declared.table.Kind.{Kind}
use Rattle.gv_regs.specs.declared.table.Kind.TheVariants.{Plain, Masked, ReadOnly, Acknowledges, TopBit, OnesClear, Acting, Fixed}
use Rattle.gv_regs.specs.declared.constant.Constant.{Constant}
use Rattle.gv_regs.specs.declared.constant.Constant.TheVariants.{Number, GuestNumber, LowBase, LowSize, HighBase, HighSize}

-- One or more dwords, one behind the other.
pub record Row : Type 0 where
  pub first : ℕ  -- the offset of the first
  pub dwords : ℕ
  pub engine : Option ℕ  -- the engine whose registers they are, or none
  pub kind : Kind
  pub target : ℕ → Target  -- which part of the device serves them, by the number of the dword
  pub reset : ℕ  -- what each holds after a reset

abbrev pub own : ℕ → Target
own number = Own

abbrev pub to : Target → ℕ → Target
to target number = target

-- ---- the engines

pub record EngineBlock : Type 0 where
  pub number : ℕ
  pub base : ℕ  -- the offset from which its registers are counted
  pub reset_bit : ℕ  -- its bit of the engine reset register

-- RCS, BCS, VCS and VECS, in the order of their numbers
abbrev pub engines : List EngineBlock
engines =
    record { number = 0; base = register_base 0; reset_bit = 1 }
    ∷ record { number = 1; base = register_base 1; reset_bit = 3 }
    ∷ record { number = 2; base = register_base 2; reset_bit = 2 }
    ∷ record { number = 3; base = register_base 3; reset_bit = 4 }
    ∷ []

abbrev pub id_of : EngineBlock → EngineId
id_of e = record { 0 = e.number }

abbrev pub of_engine : EngineBlock → ℕ → ℕ → Kind → (ℕ → Target) → ℕ → Row
of_engine e at dwords kind target reset =
    record { first = e.base + at; dwords = dwords; engine = Some e.number; kind = kind; target = target; reset = reset }

abbrev pub engine_rows : EngineBlock → List Row
engine_rows e =
    of_engine e 0x30 4 Plain own 0  -- tail, head, start and control of the ring
    ∷ of_engine e 0x80 1 Plain own 0  -- the global page of the status page, in bits 31..12
    ∷ of_engine e 0x230 1 Acting (to (Elsp (id_of e))) 0  -- ELSP
    ∷ of_engine e 0x29C 1 Masked own 0  -- mode
    ∷ of_engine e 0x370 12 ReadOnly (λ number. Status (id_of e) number) 0  -- six status pairs, event then number
    ∷ of_engine e 0x3A0 1 Masked (to (StatusPointer (id_of e))) 7  -- the status pointer, bits 10..8 alone
    ∷ of_engine e 0x600 32 Plain (λ number. General (id_of e) number) 0  -- sixteen general registers, low half first
    ∷ []

-- ---- the registers that no engine has

abbrev pub shared : ℕ → ℕ → Kind → (ℕ → Target) → ℕ → Row
shared first dwords kind target reset =
    record { first = first; dwords = dwords; engine = None; kind = kind; target = target; reset = reset }

-- ISR, IMR, IIR and IER of an interrupt group
abbrev pub group_rows : ℕ → List Row
group_rows first =
    shared first 1 ReadOnly (to Interrupts) 0
    ∷ shared (first + 4) 1 Plain (to Interrupts) 0xFFFFFFFF
    ∷ shared (first + 8) 1 OnesClear (to Interrupts) 0
    ∷ shared (first + 0xC) 1 Plain (to Interrupts) 0
    ∷ []

-- the groups 0, 1 and 3 under their master
abbrev pub interrupt_rows : List Row
interrupt_rows = shared 0x44200 1 TopBit (to Interrupts) 0 ∷ group_rows 0x44300 ++ group_rows 0x44310 ++ group_rows 0x44330

abbrev pub reset_rows : List Row
reset_rows = shared 0x941C 1 Acting (to EngineReset) 0 ∷ []

-- force-wake
abbrev pub force_wake_rows : List Row
force_wake_rows =
    shared 0xA270 1 Masked own 0  -- the request of media
    ∷ shared 0xA278 1 Masked own 0  -- of render
    ∷ shared 0xA188 1 Masked own 0  -- of blitter
    ∷ shared 0xD88 1 (Acknowledges 0xA270) own 0
    ∷ shared 0xD84 1 (Acknowledges 0xA278) own 0
    ∷ shared 0x130044 1 (Acknowledges 0xA188) own 0
    ∷ []

abbrev pub constant_row : ℕ → Constant → Row
constant_row first constant = shared first 1 (Fixed constant) own 0

-- the PVINFO page, from 0x78000 to 0x78FFF
abbrev pub pvinfo_rows : List Row
pvinfo_rows =
    constant_row 0x78000 (Number 0x76544776)  -- identity
    ∷ constant_row 0x78004 (Number 0x47765447)
    ∷ constant_row 0x78008 (Number 1)  -- version
    ∷ constant_row 0x7800C GuestNumber
    ∷ constant_row 0x78010 (Number 0x1C)  -- capabilities
    ∷ constant_row 0x78040 LowBase
    ∷ constant_row 0x78044 LowSize
    ∷ constant_row 0x78048 HighBase
    ∷ constant_row 0x7804C HighSize
    ∷ constant_row 0x78050 (Number 0)  -- how many fences there are
    ∷ shared 0x78818 1 Acting (to Notify) 0
    ∷ shared 0x78838 2 Plain own 0  -- PDP0, low and high
    ∷ []

-- the display plane
abbrev pub plane_rows : List Row
plane_rows =
    shared 0x70180 1 Plain own 0  -- PLANE_CTL
    ∷ shared 0x70188 1 Plain own 0  -- PLANE_STRIDE
    ∷ shared 0x70190 1 Plain own 0  -- PLANE_SIZE
    ∷ shared 0x7019C 1 Plain own 0  -- PLANE_SURF
    ∷ []

-- ---- the whole table

abbrev pub shared_rows : List Row
shared_rows = interrupt_rows ++ reset_rows ++ force_wake_rows ++ pvinfo_rows ++ plane_rows

abbrev pub registers : List Row
registers = flat_map engine_rows engines ++ shared_rows

abbrev pub covers : Row → ℕ → Bool
covers row offset = nat_le row.first offset && nat_lt offset (row.first + 4 * row.dwords)

abbrev pub row_in : List Row → ℕ → Option Row
row_in rows offset = if offset % 4 == 0 then find (λ row. covers row offset) rows else None

-- The row of an offset. It is no abbrev, since the whole table would then stand in each goal.
unfoldable pub row_at : ℕ → Option Row
row_at offset = row_in registers offset

-- Where there is no register, nothing is written.
abbrev pub row_kind : Option Row → Kind
row_kind None = ReadOnly
row_kind (Some row) = row.kind

abbrev pub kind_at : ℕ → Kind
kind_at offset = row_kind (row_at offset)

abbrev pub target_of : Option Row → ℕ → Target
target_of None offset = Absent
target_of (Some row) offset = row.target ((offset - row.first) / 4)

abbrev pub target_at : ℕ → Target
target_at offset = target_of (row_at offset) offset

abbrev pub reset_of : Option Row → ℕ
reset_of None = 0
reset_of (Some row) = row.reset

abbrev pub reset_at : ℕ → ℕ
reset_at offset = reset_of (row_at offset)

abbrev pub engine_of : Option Row → Option ℕ
engine_of None = None
engine_of (Some row) = row.engine

abbrev pub engine_at : ℕ → Option ℕ
engine_at offset = engine_of (row_at offset)

-- ---- the engine reset register

-- A value that is written there resets an engine where its bit 0 is set, or the engine's own bit.
abbrev pub resets : ℕ → EngineBlock → Bool
resets value e = has_bit value 0 || has_bit value e.reset_bit

-- which engines it resets, by number
abbrev pub engines_reset : ℕ → List Bool
engines_reset value = map (resets value) engines
