-- The interrupt registers of one guest, and when an interrupt is injected.
use Rattle.std.specs.Prelude.{ℕ, ◌+◌, ◌-◌, ◌/◌, ◌%◌, ◌^◌, ◌<◌, List, [], ◌∷◌, Bool, false, not, ◌==◌, ◌&&◌, if◌then◌else◌, Option, None, Some, bit_and, bit_or}
use Rattle.std.specs.List.{list_any}
use Rattle.gv_types.specs.Bits.{has_bit}
use Rattle.gv_irq.specs.declared.group.GroupId.{GroupId}
use Rattle.gv_irq.specs.declared.group.GroupId.TheVariants.{Zero, One, Three}
use Rattle.gv_irq.specs.declared.register.Register.{Register}
use Rattle.gv_irq.specs.declared.register.Register.TheVariants.{Master, Isr, Imr, Iir, Ier}

-- A group of 32 interrupt bits: those that are masked (IMR), that are pending (IIR) and that may
-- interrupt (IER).
pub record Group : Type 0 where
  pub imr : ℕ
  pub iir : ℕ
  pub ier : ℕ

-- The master register, of which bit 31 alone is kept, and the groups 0, 1 and 3.
pub record Interrupts : Type 0 where
  pub master : Bool
  pub zero : Group
  pub one : Group
  pub three : Group

abbrev pub group : Interrupts → GroupId → Group
group s Zero = s.zero
group s One = s.one
group s Three = s.three

abbrev pub with_group : Interrupts → GroupId → Group → Interrupts
with_group s Zero g = record s { zero = g }
with_group s One g = record s { one = g }
with_group s Three g = record s { three = g }

abbrev pub number_of : GroupId → ℕ
number_of Zero = 0
number_of One = 1
number_of Three = 3

abbrev pub group_numbered : ℕ → GroupId
group_numbered number = if number == 0 then Zero else (if number == 1 then One else Three)

-- After a reset every bit is masked, none is pending and none may interrupt.
abbrev pub reset_group : Group
reset_group = record { imr = 0xFFFFFFFF; iir = 0; ier = 0 }

abbrev pub reset_irq : Interrupts
reset_irq = record { master = false; zero = reset_group; one = reset_group; three = reset_group }

abbrev pub with_bit : ℕ → ℕ → ℕ
with_bit dword bit = bit_or dword (2 ^ bit)

-- the dword without the bits that are ones in another
abbrev pub without_bits : ℕ → ℕ → ℕ
without_bits dword ones = bit_and dword (2 ^ 32 - 1 - ones)

-- ---- the bits of the engines

-- The bits of all groups are counted through, 32 for each number of a group. RCS has bits 15..0 of group 0,
-- BCS bits 31..16 of group 0, VCS bits 15..0 of group 1, VECS bits 15..0 of group 3. Of an engine's 16 bits,
-- bit 0 is the user interrupt, bit 4 notify and bit 8 context switch.
abbrev pub first_bit_of : ℕ → ℕ
first_bit_of engine = if engine == 0 then 0 else (if engine == 1 then 16 else (if engine == 2 then 32 else 96))

abbrev pub interrupt_bit : ℕ → ℕ → ℕ
interrupt_bit engine bit = first_bit_of engine + bit

-- ---- raising a bit

-- Raising a bit that IMR masks does nothing. Else it sets that bit of IIR.
abbrev pub group_raised : Group → ℕ → Group
group_raised g bit = if has_bit g.imr bit then g else record g { iir = with_bit g.iir bit }

-- A bit may interrupt where IMR doesn't mask it, it was clear before and IER has it.
abbrev pub may_interrupt : Group → ℕ → Bool
may_interrupt g bit = not (has_bit g.imr bit) && not (has_bit g.iir bit) && has_bit g.ier bit

abbrev pub group_of_bit : ℕ → GroupId
group_of_bit bit = group_numbered (bit / 32)

abbrev pub raised : Interrupts → ℕ → Interrupts
raised s bit = with_group s (group_of_bit bit) (group_raised (group s (group_of_bit bit)) (bit % 32))

-- The group of which raising the bit injects an interrupt: its own, where the bit may interrupt and master's
-- bit 31 is set.
abbrev pub raising_injects : Interrupts → ℕ → Option GroupId
raising_injects s bit = if may_interrupt (group s (group_of_bit bit)) (bit % 32) && s.master then Some (group_of_bit bit) else None

-- ---- the registers by their offsets

-- A group has four registers, one behind the other, from 0x44300 + 16 * its number on.
abbrev pub register_of : GroupId → ℕ → Register
register_of id at = if at == 0 then Isr else (if at == 4 then Imr id else (if at == 8 then Iir id else Ier id))

abbrev pub register_at : ℕ → Register
register_at offset = if offset == 0x44200 then Master else register_of (group_numbered ((offset - 0x44300) / 16)) (offset % 16)

abbrev pub interrupt_offsets : List ℕ
interrupt_offsets =
    0x44200
    ∷ 0x44300 ∷ 0x44304 ∷ 0x44308 ∷ 0x4430C
    ∷ 0x44310 ∷ 0x44314 ∷ 0x44318 ∷ 0x4431C
    ∷ 0x44330 ∷ 0x44334 ∷ 0x44338 ∷ 0x4433C ∷ []

abbrev pub is_interrupt_register : ℕ → Bool
is_interrupt_register offset = list_any (λ at. at == offset) interrupt_offsets

-- ---- what is deliverable

abbrev pub deliverable_bits : Group → ℕ
deliverable_bits g = bit_and g.iir g.ier

-- A group is deliverable where master's bit 31 is set and its `IIR & IER` isn't 0.
abbrev pub is_deliverable : Interrupts → GroupId → Bool
is_deliverable s id = s.master && not (deliverable_bits (group s id) == 0)

-- the lowest deliverable group
abbrev pub first_deliverable : Interrupts → Option GroupId
first_deliverable s =
    if is_deliverable s Zero then Some Zero
    else (if is_deliverable s One then Some One
    else (if is_deliverable s Three then Some Three
    else None))

abbrev pub number_in : Option GroupId → Option ℕ
number_in None = None
number_in (Some id) = Some (number_of id)

-- ---- writing a register

-- Of master bit 31 is written. IMR and IER are written whole. A one that is written to IIR clears that
-- bit. ISR isn't written.
abbrev pub written_by : Register → Interrupts → ℕ → Interrupts
written_by Master s value = record s { master = has_bit value 31 }
written_by Isr s value = s
written_by (Imr id) s value = with_group s id (record (group s id) { imr = value })
written_by (Iir id) s value = with_group s id (record (group s id) { iir = without_bits (group s id).iir value })
written_by (Ier id) s value = with_group s id (record (group s id) { ier = value })

abbrev pub irq_written : Interrupts → ℕ → ℕ → Interrupts
irq_written s offset value = written_by (register_at offset) s value

abbrev pub none_before : Option GroupId → Option GroupId → Option GroupId
none_before None after = after
none_before (Some id) after = None

-- The group of which a write injects an interrupt. A write to a group's IER injects one of that group, where
-- the group is deliverable after it and wasn't before. A write to master injects one where some group is
-- deliverable after it and none was before, of the lowest such group. No other write injects any.
abbrev pub write_injects : Register → Interrupts → Interrupts → Option GroupId
write_injects Master before after = none_before (first_deliverable before) (first_deliverable after)
write_injects (Ier id) before after = if not (is_deliverable before id) && is_deliverable after id then Some id else None
write_injects register before after = None

abbrev pub writing_injects : Interrupts → ℕ → ℕ → Option GroupId
writing_injects s offset value = write_injects (register_at offset) s (irq_written s offset value)

-- ---- what is told of an injected interrupt

-- IIR of the group, afterwards
abbrev pub told_of : Option GroupId → Interrupts → Option ℕ
told_of None after = None
told_of (Some id) after = Some (group after id).iir

abbrev pub raising_tells : Interrupts → ℕ → Option ℕ
raising_tells s bit = told_of (raising_injects s bit) (raised s bit)

abbrev pub writing_tells : Interrupts → ℕ → ℕ → Option ℕ
writing_tells s offset value = told_of (writing_injects s offset value) (irq_written s offset value)

-- ---- reading a register

abbrev pub low_half : ℕ → Bool
low_half bits = not (bits % 2 ^ 16 == 0)

abbrev pub high_half : ℕ → Bool
high_half bits = not (bits / 2 ^ 16 == 0)

-- Master reads bit 31; bits 0 and 1 where group 0's `IIR & IER` has a bit of 15..0 and of 31..16; bit 2 where
-- group 1's has a bit of 15..0; bit 6 where group 3's has one of 15..0.
abbrev pub master_read : Interrupts → ℕ
master_read s =
    (if s.master then 2 ^ 31 else 0)
    + (if low_half (deliverable_bits s.zero) then 1 else 0)
    + (if high_half (deliverable_bits s.zero) then 2 else 0)
    + (if low_half (deliverable_bits s.one) then 4 else 0)
    + (if low_half (deliverable_bits s.three) then 0x40 else 0)

-- IMR, IIR and IER read what they hold, and ISR reads 0.
abbrev pub read_by : Register → Interrupts → ℕ
read_by Master s = master_read s
read_by Isr s = 0
read_by (Imr id) s = (group s id).imr
read_by (Iir id) s = (group s id).iir
read_by (Ier id) s = (group s id).ier

abbrev pub irq_read : Interrupts → ℕ → ℕ
irq_read s offset = read_by (register_at offset) s

-- what always holds: each register is a dword
pub record AreDwords (g : Group) : Type 0 where
  pub imr : g.imr < 2 ^ 32
  pub iir : g.iir < 2 ^ 32
  pub ier : g.ier < 2 ^ 32

pub record AllDwords (s : Interrupts) : Type 0 where
  pub zero : AreDwords s.zero
  pub one : AreDwords s.one
  pub three : AreDwords s.three
