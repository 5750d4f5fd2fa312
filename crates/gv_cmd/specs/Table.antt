-- The command table: which headers are listed, with how many dwords, and what the fields of each row
-- are. A command is the list of its dwords, the header first.
use Rattle.std.specs.Prelude.{ℕ, ◌+◌, ◌-◌, ◌*◌, ◌/◌, ◌==◌, ◌&&◌, ◌||◌, not, nat_le, nat_lt, Bool, List, [], ◌∷◌, ◌++◌, length, slice_index, if◌then◌else◌, Option, None, Some}
use Rattle.gv_types.specs.Bits.{has_bit}
use Rattle.gv_cmd.specs.Bits.{bits, register, byte_address, dword_address, quadword_address}
use Rattle.gv_cmd.specs.declared.blit.Blit.{Blit}
use Rattle.gv_cmd.specs.declared.kind.Kind.{Kind}
use Rattle.gv_cmd.specs.declared.kind.Kind.TheVariants.{Noop, UserInterrupt, ArbCheck, ArbOnOff, BatchEnd, SemaphoreWait, Store, LoadRegisters, StoreRegister, LoadRegister, MoveRegister, CopyMemory, Flush, PipeControl, BatchStart, ColourBlit, CopyBlit}

-- A row. The header names it by its bits from 31 down.
pub record CommandRow : Type 0 where
  pub lowest : ℕ  -- the lowest of these bits
  pub opcode : ℕ  -- what they are
  pub dwords : ℕ → Option ℕ  -- how many dwords the header says, or that the row has no such header
  pub fields : List ℕ → Option Kind  -- by so many dwords; none where a rule on another dword than the header isn't kept

-- ---- how many dwords a header says

-- one dword, whatever the rest of the header is
abbrev pub alone : ℕ → Option ℕ
alone h = Some 1

-- n dwords, where a length field has n minus 2
abbrev pub exactly : ℕ → ℕ → Option ℕ
exactly n field = if field + 2 == n then Some n else None

-- where that field is bits 7..0
abbrev pub always : ℕ → ℕ → Option ℕ
always n h = exactly n (bits h 7 0)

-- SEMAPHORE_WAIT: bit 15 must be set, and the comparison (bits 14..12) is 0 to 5
abbrev pub semaphore_length : ℕ → Option ℕ
semaphore_length h = if has_bit h 15 && nat_lt (bits h 14 12) 6 then always 4 h else None

-- STORE_DATA_IMM: 4 dwords, or 5 with bit 21
abbrev pub store_length : ℕ → Option ℕ
store_length h = if has_bit h 21 then exactly 5 (bits h 9 0) else exactly 4 (bits h 9 0)

-- LOAD_REGISTER_IMM: 1 + 2 * n dwords, n from 1 to 32, so that the length field is odd and below 64
abbrev pub load_registers_length : ℕ → Option ℕ
load_registers_length h = if has_bit h 0 && nat_le (bits h 7 0 + 2) 65 then Some (bits h 7 0 + 2) else None

-- FLUSH_DW: 4 or 5 dwords; bits 15..14 are 0 or 1, and bit 21 is clear
abbrev pub flush_length : ℕ → Option ℕ
flush_length h =
    if nat_lt (bits h 15 14) 2 && not (has_bit h 21)
    then (if bits h 5 0 == 3 then Some 5 else exactly 4 (bits h 5 0))
    else None

-- a blit: bits 15 and 11 mean tiling, and no row is tiled
abbrev pub untiled : ℕ → ℕ → Option ℕ
untiled n h = if has_bit h 15 || has_bit h 11 then None else always n h

-- PIPE_CONTROL has one header
abbrev pub pipe_length : ℕ → Option ℕ
pipe_length h = exactly 6 (bits h 15 0)

-- ---- the fields of a row

abbrev pub semaphore : List ℕ → Kind
semaphore ws = SemaphoreWait (has_bit (slice_index ws 0) 22) (bits (slice_index ws 0) 14 12) (slice_index ws 1) (dword_address ws 2)

abbrev pub store : List ℕ → Kind
store ws = Store (has_bit (slice_index ws 0) 22) (dword_address ws 1) (slice_index ws 3) (if has_bit (slice_index ws 0) 21 then Some (slice_index ws 4) else None)

-- how many pairs of dwords follow a header
abbrev pub pair_count : List ℕ → ℕ
pair_count ws = (length ws - 1) / 2

abbrev pub load_registers : List ℕ → Kind
load_registers ws = LoadRegisters (pair_count ws)

abbrev pub store_register : List ℕ → Kind
store_register ws = StoreRegister (has_bit (slice_index ws 0) 22) (register ws 1) (dword_address ws 2)

abbrev pub load_register : List ℕ → Kind
load_register ws = LoadRegister (has_bit (slice_index ws 0) 22) (register ws 1) (dword_address ws 2)

abbrev pub move_register : List ℕ → Kind
move_register ws = MoveRegister (register ws 1) (register ws 2)

-- bit 22: the source is global; bit 21: the destination is
abbrev pub copy_memory : List ℕ → Kind
copy_memory ws = CopyMemory (has_bit (slice_index ws 0) 22) (dword_address ws 3) (has_bit (slice_index ws 0) 21) (dword_address ws 1)

-- Bits 15..14 of the header say whether FLUSH_DW writes, bit 2 of the address's low dword whether
-- globally.
abbrev pub flush : List ℕ → Kind
flush ws = Flush (if bits (slice_index ws 0) 15 14 == 1 then Some record {
  global = has_bit (slice_index ws 1) 2;
  at = quadword_address ws 1;
  low = slice_index ws 3;
  high = if bits (slice_index ws 0) 5 0 == 3 then Some (slice_index ws 4) else None;
} else None)

-- Of the flags, bits 15..14 say whether PIPE_CONTROL writes, bit 24 whether globally, bit 8 whether it
-- notifies.
abbrev pub pipe_fields : List ℕ → Kind
pipe_fields ws = PipeControl (has_bit (slice_index ws 1) 8) (if bits (slice_index ws 1) 15 14 == 1 then Some record {
  global = has_bit (slice_index ws 1) 24;
  at = quadword_address ws 2;
  low = slice_index ws 4;
  high = Some (slice_index ws 5);
} else None)

-- flags with 2 or 3 in bits 15..14, or with bit 21, are unlisted
abbrev pub pipe_control : List ℕ → Option Kind
pipe_control ws =
    if nat_lt (bits (slice_index ws 1) 15 14) 2 && not (has_bit (slice_index ws 1) 21) then Some (pipe_fields ws) else None

abbrev pub batch_start : List ℕ → Kind
batch_start ws = BatchStart (has_bit (slice_index ws 0) 8) (has_bit (slice_index ws 0) 22) (dword_address ws 1)

-- depth, bits 25..24 of BR13, as bytes of a pixel
abbrev pub pixel_bytes : ℕ → ℕ
pixel_bytes depth = if depth == 3 then 4 else depth + 1

-- BR13 of a blit: this raster operation, no depth of 2, a depth of 3 only with header bits 21 and 20
-- set, no clipping
abbrev pub is_plain : ℕ → List ℕ → Bool
is_plain raster ws =
    bits (slice_index ws 1) 23 16 == raster
    && not (bits (slice_index ws 1) 25 24 == 2)
    && (not (bits (slice_index ws 1) 25 24 == 3) || (has_bit (slice_index ws 0) 21 && has_bit (slice_index ws 0) 20))
    && not (has_bit (slice_index ws 1) 30)

-- no coordinate above 4096 and no pitch above 32767
abbrev pub is_small : Blit → Bool
is_small b =
    nat_le b.x1 4096 && nat_le b.y1 4096 && nat_le b.x2 4096 && nat_le b.y2 4096
    && nat_le b.from_x 4096 && nat_le b.from_y 4096
    && nat_le b.to_pitch 32767 && nat_le b.from_pitch 32767

-- A coordinate dword has x in bits 15..0 and y in bits 31..16.
abbrev pub colour_fields : List ℕ → Blit
colour_fields ws = record {
  bytes = pixel_bytes (bits (slice_index ws 1) 25 24);
  to = byte_address ws 4;
  to_pitch = bits (slice_index ws 1) 15 0;
  x1 = bits (slice_index ws 2) 15 0;
  y1 = bits (slice_index ws 2) 31 16;
  x2 = bits (slice_index ws 3) 15 0;
  y2 = bits (slice_index ws 3) 31 16;
  colour = slice_index ws 6;
  from = 0;
  from_pitch = 0;
  from_x = 0;
  from_y = 0;
}

abbrev pub copy_fields : List ℕ → Blit
copy_fields ws = record (colour_fields ws) {
  colour = 0;
  from = byte_address ws 8;
  from_pitch = bits (slice_index ws 7) 15 0;
  from_x = bits (slice_index ws 6) 15 0;
  from_y = bits (slice_index ws 6) 31 16;
}

abbrev pub colour_blit : List ℕ → Option Kind
colour_blit ws = if is_plain 0xF0 ws && is_small (colour_fields ws) then Some (ColourBlit (colour_fields ws)) else None

abbrev pub copy_blit : List ℕ → Option Kind
copy_blit ws = if is_plain 0xCC ws && is_small (copy_fields ws) then Some (CopyBlit (copy_fields ws)) else None

-- ---- the rows

-- Memory-interface commands have 0 in bits 31..29, and their opcode in bits 28..23. They have these fields.
abbrev pub interface : ℕ → (ℕ → Option ℕ) → (List ℕ → Kind) → CommandRow
interface opcode dwords fields = record { lowest = 23; opcode = opcode; dwords = dwords; fields = λ ws. Some (fields ws) }

-- and these have none
abbrev pub plain : ℕ → Kind → CommandRow
plain opcode kind = interface opcode alone (λ ws. kind)

abbrev pub interface_rows : List CommandRow
interface_rows =
    plain 0x00 Noop
    ∷ plain 0x02 UserInterrupt
    ∷ plain 0x05 ArbCheck
    ∷ plain 0x08 ArbOnOff
    ∷ plain 0x0A BatchEnd
    ∷ interface 0x1C semaphore_length semaphore  -- SEMAPHORE_WAIT
    ∷ interface 0x20 store_length store  -- STORE_DATA_IMM
    ∷ interface 0x22 load_registers_length load_registers  -- LOAD_REGISTER_IMM
    ∷ interface 0x24 (always 4) store_register  -- STORE_REGISTER_MEM
    ∷ interface 0x26 flush_length flush  -- FLUSH_DW
    ∷ interface 0x29 (always 4) load_register  -- LOAD_REGISTER_MEM
    ∷ interface 0x2A (always 3) move_register  -- LOAD_REGISTER_REG
    ∷ interface 0x2E (always 5) copy_memory  -- COPY_MEM_MEM
    ∷ interface 0x31 (always 3) batch_start  -- BATCH_BUFFER_START
    ∷ []

-- Blits have 2 in bits 31..29, and their opcode in bits 28..22.
abbrev pub blit : ℕ → ℕ → (List ℕ → Option Kind) → CommandRow
blit opcode n fields = record { lowest = 22; opcode = 2 * 0x80 + opcode; dwords = untiled n; fields = fields }

abbrev pub blit_rows : List CommandRow
blit_rows =
    blit 0x50 7 colour_blit  -- XY_COLOR_BLT
    ∷ blit 0x53 10 copy_blit  -- XY_SRC_COPY_BLT
    ∷ []

-- PIPE_CONTROL is of the 3D pipeline: 3 in bits 31..29, then 3, 2 and 0
abbrev pub pipe_row : CommandRow
pipe_row = record { lowest = 16; opcode = 0x7A00; dwords = pipe_length; fields = pipe_control }

abbrev pub table : List CommandRow
table = pipe_row ∷ interface_rows ++ blit_rows

-- ---- the whole table

abbrev pub has_header : CommandRow → ℕ → Bool
has_header row h = bits h 31 row.lowest == row.opcode

-- by the first row that the header names
abbrev pub length_in : List CommandRow → ℕ → Option ℕ
length_in [] h = None
length_in (row ∷ rows) h = if has_header row h then row.dwords h else length_in rows h

abbrev pub kind_in : List CommandRow → ℕ → List ℕ → Option Kind
kind_in [] h ws = None
kind_in (row ∷ rows) h ws = if has_header row h then row.fields ws else kind_in rows h ws

-- the length that a header names: none where no row has it
abbrev pub length_of : ℕ → Option ℕ
length_of h = length_in table h

-- how many dwords of a command are read: the header alone where no row has it
abbrev pub read_length : Option ℕ → ℕ
read_length None = 1
read_length (Some n) = n

-- the fields of a command of a listed length
unfoldable pub kind_of : List ℕ → Option Kind
kind_of ws = kind_in table (slice_index ws 0) ws
