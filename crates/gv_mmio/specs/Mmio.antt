-- What the registers, the interrupts and the ports of a guest are of its private device.
use Rattle.std.specs.Prelude.{◌≡◌, ◌≢◌, ℕ, ◌<◌, Bool, List, [], ◌∷◌, Option, None, if◌then◌else◌}
use Rattle.gv_types.specs.declared.ranges.Ranges.{Ranges}
use Rattle.gv_csb.specs.Slots.{reset_execlists}
use Rattle.gv_csb.specs.Status.{idle_to_active}
use Rattle.gv_irq.specs.Irq.{reset_irq}
use Rattle.gv_regs.specs.Registers.{map_of, reset_registers}
use Rattle.gv_regs.specs.Table.{target_at, engines_reset}
use Rattle.gv_regs.specs.declared.effect.Target.TheVariants.{General as GeneralTarget, Notify as NotifyTarget, EngineReset}
use Rattle.gv_private.specs.Device.{PrivateDevice, Written, quietly}
use Rattle.gv_private.specs.Registers.{dword_read, dword_written, is_named}
use Rattle.gv_private.specs.Status.{events_given}
use Rattle.gv_private.specs.Submission.{port_written}
use Rattle.gv_mmio.specs.Port.{writes_of}
use Rattle.gv_mmio.specs.Ports.{ports_in}
use Rattle.gv_mmio.specs.declared.mmio.Mmio.{Mmio}
use Rattle.gv_mmio.specs.declared.ports.Ports.{Ports}
use Rattle.gv_mmio.specs.declared.mmio.Read.{Read}
use Rattle.gv_mmio.specs.declared.mmio.Read.TheVariants.{Value, General as ReadGeneral}
use Rattle.gv_mmio.specs.declared.mmio.Wrote.{Wrote}
use Rattle.gv_mmio.specs.declared.mmio.Wrote.TheVariants.{Done, General, Engines, Notify, Starts}

abbrev pub ports_at : Mmio → ℕ → Ports
ports_at m engine = ports_in m.engines engine

abbrev pub guest_of : Mmio → ℕ
guest_of m = m.registers.guest

abbrev pub ranges_of : Mmio → Ranges
ranges_of m = m.registers.ranges

-- A private device with these registers, interrupts and ports. All else is as it was.
abbrev pub behind : PrivateDevice → Mmio → PrivateDevice
behind p m = record p {
  number = guest_of m;
  ranges = ranges_of m;
  registers = map_of m.registers;
  interrupts = m.interrupts;
  engines = λ engine. record (p.engines engine) { writes = writes_of (ports_at m engine).port; slots = (ports_at m engine).slots };
}

-- the same, as after a function reset
abbrev pub at_first : PrivateDevice → ℕ → Ranges → PrivateDevice
at_first p guest ranges = record p {
  number = guest;
  ranges = ranges;
  registers = reset_registers;
  interrupts = reset_irq;
  engines = λ engine. record (p.engines engine) { writes = []; slots = reset_execlists };
}

-- it is the same guest's, with the same ranges
pub record SameGuest (old new : Mmio) : Type 0 where
  pub guest : guest_of new ≡ guest_of old
  pub ranges : ranges_of new ≡ ranges_of old

-- what a read of a dword finds
abbrev pub Reads : Mmio → ℕ → Read → Type 0
Reads m offset (Value value) = (p : PrivateDevice) → value ≡ dword_read (behind p m) offset
Reads m offset (ReadGeneral engine n) = (target_at offset ≡ GeneralTarget engine n) × (engine.0 < 4) × (n < 32)

-- What of a reset of the named engines isn't kept here: their general registers, and their elements at work.
abbrev pub rest_reset : List Bool → PrivateDevice → PrivateDevice
rest_reset named p = record p { engines = λ engine. if is_named named engine then record (p.engines engine) { general = λ n. 0; element = None } else p.engines engine }

-- A write whose outcome is this, with an interrupt at the most, or one that starts a list, with a status event.
abbrev pub IsDone : Written → PrivateDevice → Option ℕ → Type 0
IsDone w p irq = w ≡ record { device = p; irq = irq; reason = None }

abbrev pub StartsList : Written → PrivateDevice → ℕ → Type 0
StartsList w p engine = w ≡ events_given p engine (idle_to_active ∷ [])

-- what a submission makes of the device
abbrev pub SubmitsList : Written → PrivateDevice → ℕ → Wrote → Type 0
SubmitsList w p engine (Done irq) = IsDone w p irq
SubmitsList w p engine (Starts other) = (other.0 ≡ engine) × StartsList w p engine
SubmitsList w p engine wrote = ⊥

abbrev pub WritesPort : Mmio → ℕ → ℕ → Mmio → Wrote → Type 0
WritesPort old engine value new wrote = (p : PrivateDevice) → SubmitsList (port_written (behind p old) engine value) (behind p new) engine wrote

-- what a write of a dword makes of it; a reset of engines is none that is done, and starts no list
abbrev pub Writes : Mmio → ℕ → ℕ → Mmio → Wrote → Type 0
Writes old offset value new (Done irq) = (target_at offset ≢ EngineReset) × ((p : PrivateDevice) → IsDone (dword_written (behind p old) offset value) (behind p new) irq)
Writes old offset value new (Starts engine) = (target_at offset ≢ EngineReset) × (engine.0 < 4) × ((p : PrivateDevice) → StartsList (dword_written (behind p old) offset value) (behind p new) engine.0)
Writes old offset value new (Engines named) = (target_at offset ≡ EngineReset) × (named ≡ engines_reset value) × ((p : PrivateDevice) → dword_written (behind p old) offset value ≡ quietly (rest_reset named (behind p new)))
Writes old offset value new (General engine n) = (target_at offset ≡ GeneralTarget engine n) × (engine.0 < 4) × (n < 32) × ((p : PrivateDevice) → behind p new ≡ behind p old)
Writes old offset value new Notify = (target_at offset ≡ NotifyTarget) × ((p : PrivateDevice) → behind p new ≡ behind p old)
