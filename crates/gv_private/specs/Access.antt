-- What a guest's access reads or leaves, by its place: memory, the aperture, and the register range with the global
-- table at its upper half.
use Rattle.std.specs.Prelude.{ℕ, ◌+◌, ◌-◌, ◌*◌, ◌/◌, ◌%◌, ◌^◌, Option, None, nat_lt, if◌then◌else◌}
use Rattle.gv_types.specs.Memory.{memory_read, memory_write, half_of, with_half}
use Rattle.gv_types.specs.declared.event.Place.{Place}
use Rattle.gv_types.specs.declared.event.Place.TheVariants as places
use Rattle.gv_types.specs.declared.event.Width.{Width}
use Rattle.gv_types.specs.declared.event.Width.TheVariants.{Four, Eight}
use Rattle.gv_entry.specs.Global.{global_entry, with_entry}
use Rattle.gv_entry.specs.Ranges.{is_in}
use Rattle.gv_private.specs.Device.{PrivateDevice, Written, quietly, and_then}
use Rattle.gv_private.specs.Grants.{page_grant, frame_read, frame_written}
use Rattle.gv_private.specs.Registers.{dword_read, dword_written}
use Rattle.gv_private.specs.Roots.{unless_bad}

-- ---- memory: a write by which a live table has a bad entry fails the guest, and what was written stays

abbrev pub memory_written : PrivateDevice → Width → ℕ → ℕ → Written
memory_written p width at value = unless_bad (record p { memory = memory_write p.memory width at value })

-- ---- the aperture: where the page is in the low range, the frame that the global table grants

abbrev pub aperture_frame : PrivateDevice → ℕ → Option ℕ
aperture_frame p page = if is_in p.ranges.low page then page_grant p page else None

abbrev pub aperture_read : PrivateDevice → Width → ℕ → ℕ
aperture_read p width at = frame_read p.memory width at (aperture_frame p (at / 4096))

abbrev pub aperture_written : PrivateDevice → Width → ℕ → ℕ → PrivateDevice
aperture_written p width at value = record p { memory = frame_written p.memory width at value (aperture_frame p (at / 4096)) }

-- ---- the global table, at offset 0x800000 of the register range: 8 bytes an entry

abbrev pub table_at : ℕ
table_at = 0x800000

abbrev pub page_at : ℕ → ℕ
page_at offset = (offset - table_at) / 8

-- four bytes of an entry are its half
abbrev pub entry_read : Width → ℕ → ℕ → ℕ
entry_read Four offset entry = half_of entry offset
entry_read Eight offset entry = entry

abbrev pub entry_after : Width → ℕ → ℕ → ℕ → ℕ
entry_after Four offset entry value = with_half entry offset value
entry_after Eight offset entry value = value

-- An entry that isn't in the guest's ranges reads 0 and isn't written.
abbrev pub table_read : PrivateDevice → Width → ℕ → ℕ
table_read p width offset = entry_read width offset (global_entry p.ranges p.entries (page_at offset))

abbrev pub table_written : PrivateDevice → Width → ℕ → ℕ → PrivateDevice
table_written p width offset value =
    record p { entries = with_entry p.ranges p.entries (page_at offset) (entry_after width offset (global_entry p.ranges p.entries (page_at offset)) value) }

-- ---- registers: an access of eight bytes is that of the low dword, then that of the high one

abbrev pub dwords_read : PrivateDevice → Width → ℕ → ℕ
dwords_read p Four offset = dword_read p offset
dwords_read p Eight offset = dword_read p offset + dword_read p (offset + 4) * 2 ^ 32

abbrev pub dwords_written : PrivateDevice → Width → ℕ → ℕ → Written
dwords_written p Four offset value = dword_written p offset value
dwords_written p Eight offset value = and_then (dword_written p offset (value % 2 ^ 32)) (λ q. dword_written q (offset + 4) (value / 2 ^ 32))

abbrev pub range_read : PrivateDevice → Width → ℕ → ℕ
range_read p width offset = if nat_lt offset table_at then dwords_read p width offset else table_read p width offset

abbrev pub range_written : PrivateDevice → Width → ℕ → ℕ → Written
range_written p width offset value = if nat_lt offset table_at then dwords_written p width offset value else quietly (table_written p width offset value)

-- ---- by place; in failsafe registers and aperture read 0 and aren't written

abbrev pub value_read : PrivateDevice → Place → Width → ℕ → ℕ
value_read p places.Memory width at = memory_read p.memory width at
value_read p places.Registers width at = if p.failsafe then 0 else range_read p width at
value_read p places.Aperture width at = if p.failsafe then 0 else aperture_read p width at

abbrev pub value_written : PrivateDevice → Place → Width → ℕ → ℕ → Written
value_written p places.Memory width at value = memory_written p width at value
value_written p places.Registers width at value = if p.failsafe then quietly p else range_written p width at value
value_written p places.Aperture width at value = if p.failsafe then quietly p else quietly (aperture_written p width at value)
