-- What a private device is with other registers, interrupts and ports.
use Rattle.std.proofs.Common.{◌≡◌, ℕ}
use Rattle.gv_irq.specs.Irq.{reset_irq}
use Rattle.gv_regs.specs.Registers.{map_of, reset_registers}
use Rattle.gv_private.specs.Device.{PrivateDevice}
use Rattle.gv_mmio.specs.Port.{writes_of}
use Rattle.gv_mmio.specs.Ports.{no_ports}
use Rattle.gv_mmio.specs.Mmio.{ports_at, behind, at_first, guest_of, ranges_of, SameGuest}
use Rattle.gv_mmio.specs.declared.mmio.Mmio.{Mmio}

-- as after a function reset
pub behind-first : (m : Mmio) → map_of m.registers ≡ reset_registers → m.interrupts ≡ reset_irq → ((engine : ℕ) → ports_at m engine ≡ no_ports) → (p : PrivateDevice) → behind p m ≡ at_first p (guest_of m) (ranges_of m)
behind-first m registers interrupts none p = λ i. record p {
  number = guest_of m;
  ranges = ranges_of m;
  registers = registers i;
  interrupts = interrupts i;
  engines = λ engine. record (p.engines engine) { writes = writes_of (none engine i).port; slots = (none engine i).slots };
}

-- the same registers, interrupts and ports
pub behind-same : (old new : Mmio) → map_of new.registers ≡ map_of old.registers → new.interrupts ≡ old.interrupts → new.engines ≡ old.engines → SameGuest old new → (p : PrivateDevice) → behind p new ≡ behind p old
behind-same old new registers interrupts engines same p = λ i. record p {
  number = same.guest i;
  ranges = same.ranges i;
  registers = registers i;
  interrupts = interrupts i;
  engines = λ engine. record (p.engines engine) { writes = writes_of (Rattle.gv_mmio.specs.Ports.ports_in (engines i) engine).port; slots = (Rattle.gv_mmio.specs.Ports.ports_in (engines i) engine).slots };
}
