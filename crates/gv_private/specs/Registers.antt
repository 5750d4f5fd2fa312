-- Each dword of the register range below the global table, by the part of the device that serves it.
use Rattle.std.specs.Prelude.{ℕ, ◌*◌, ◌/◌, ◌%◌, ◌==◌, List, Bool, false, if◌then◌else◌, slice_index_or}
use Rattle.gv_types.specs.Maps.{put}
use Rattle.gv_types.specs.Memory.{half_of, with_half}
use Rattle.gv_csb.specs.Slots.{Execlists, pointer_of, pointer_written}
use Rattle.gv_irq.specs.Irq.{irq_read, irq_written, writing_tells}
use Rattle.gv_regs.specs.Registers.{register_read, register_written, engine_reset}
use Rattle.gv_regs.specs.Table.{target_at, engines_reset}
use Rattle.gv_regs.specs.declared.effect.Target.{Target}
use Rattle.gv_regs.specs.declared.effect.Target.TheVariants.{Elsp, Status, StatusPointer, General, Interrupts, EngineReset, Notify}
use Rattle.gv_private.specs.Device.{Engine, PrivateDevice, Written, with_engine, with_slots, reset_engine, quietly}
use Rattle.gv_private.specs.Submission.{port_written}
use Rattle.gv_private.specs.Roots.{notify_written}

-- ---- general registers: dword n is a half of register n / 2, the low one first

abbrev pub general_read : Engine → ℕ → ℕ
general_read e n = half_of (e.general (n / 2)) (4 * n)

abbrev pub with_general : (ℕ → ℕ) → ℕ → ℕ → ℕ → ℕ
with_general general n value = put general (n / 2) (with_half (general (n / 2)) (4 * n) value)

abbrev pub general_written : PrivateDevice → ℕ → ℕ → ℕ → PrivateDevice
general_written p engine n value = with_engine p engine (record (p.engines engine) { general = with_general (p.engines engine).general n value })

-- ---- status pairs: dword n is the event of pair n / 2, or its context number

abbrev pub pair_dword : ℕ × ℕ → ℕ → ℕ
pair_dword pair n = if n % 2 == 0 then pair.0 else pair.1

abbrev pub status_read : Execlists → ℕ → ℕ
status_read slots n = pair_dword (slice_index_or slots.pairs (n / 2) (0, 0)) n

-- ---- engine reset

abbrev pub is_named : List Bool → ℕ → Bool
is_named named engine = slice_index_or named engine false

abbrev pub one_registers_reset : List Bool → ℕ → (ℕ → ℕ) → ℕ → ℕ
one_registers_reset named engine registers = if is_named named engine then engine_reset engine registers else registers

abbrev pub registers_reset : List Bool → (ℕ → ℕ) → ℕ → ℕ
registers_reset named registers =
    one_registers_reset named 3 (one_registers_reset named 2 (one_registers_reset named 1 (one_registers_reset named 0 registers)))

-- Of each engine that is named, the element, both lists and a half-made submission are gone, and the status ring
-- and every register have their reset values. Roots and interrupts stay.
abbrev pub engines_are_reset : List Bool → PrivateDevice → PrivateDevice
engines_are_reset named p = record p {
  registers = registers_reset named p.registers;
  engines = λ engine. if is_named named engine then reset_engine else p.engines engine;
}

-- ---- a dword by its target

-- ELSP, engine reset and notify read 0, and so does an absent offset.
abbrev pub dword_read_by : Target → PrivateDevice → ℕ → ℕ
dword_read_by Interrupts p offset = irq_read p.interrupts offset
dword_read_by (Status engine n) p offset = status_read (p.engines engine.0).slots n
dword_read_by (StatusPointer engine) p offset = pointer_of (p.engines engine.0).slots
dword_read_by (General engine n) p offset = general_read (p.engines engine.0) n
dword_read_by target p offset = register_read p.number p.ranges p.registers offset

abbrev pub dword_read : PrivateDevice → ℕ → ℕ
dword_read p offset = dword_read_by (target_at offset) p offset

-- Of the register file the plain and masked registers are written, and nothing else; status pairs aren't.
abbrev pub dword_written_by : Target → PrivateDevice → ℕ → ℕ → Written
dword_written_by Interrupts p offset value = record (quietly (record p { interrupts = irq_written p.interrupts offset value })) { irq = writing_tells p.interrupts offset value }
dword_written_by (Elsp engine) p offset value = port_written p engine.0 value
dword_written_by (StatusPointer engine) p offset value = quietly (with_slots p engine.0 (pointer_written (p.engines engine.0).slots value))
dword_written_by (General engine n) p offset value = quietly (general_written p engine.0 n value)
dword_written_by EngineReset p offset value = quietly (engines_are_reset (engines_reset value) p)
dword_written_by Notify p offset value = notify_written p value
dword_written_by target p offset value = quietly (record p { registers = register_written p.registers offset value })

abbrev pub dword_written : PrivateDevice → ℕ → ℕ → Written
dword_written p offset value = dword_written_by (target_at offset) p offset value
