-- Engines that are reset one by one.
use Rattle.std.proofs.Common.{◌≡◌, ℕ, zero, suc, ◌≤◌, Bool, true, false, ◌&&◌, List, [], cond, eqb, refl, ap, sym, ◌∙◌, arith}
use Rattle.gv_private.specs.Device.{PrivateDevice, Engine, reset_engine}
use Rattle.gv_private.specs.Registers.{is_named, registers_reset, engines_are_reset}
use Rattle.gv_regs.specs.Registers.{map_of}
use Rattle.gv_mmio.specs.Port.{writes_of}
use Rattle.gv_mmio.specs.Ports.{no_ports}
use Rattle.gv_mmio.specs.Mmio.{ports_at, behind, rest_reset, SameGuest}
use Rattle.gv_mmio.specs.declared.mmio.Mmio.{Mmio}
use Rattle.gv_mmio.specs.declared.ports.Ports.{Ports}

-- the ports after each of the four was reset where it is named
abbrev one : List Bool → ℕ → (ℕ → Ports) → ℕ → Ports
one named engine ports k = cond (eqb k engine && is_named named k) no_ports (ports k)

abbrev all : List Bool → (ℕ → Ports) → ℕ → Ports
all named ports = one named 3 (one named 2 (one named 1 (one named 0 ports)))

by_name : (b : Bool) (x : Ports) (e : Engine) → cond b reset_engine (record e { writes = writes_of x.port; slots = x.slots })
    ≡ cond b (record (record e { writes = writes_of (cond b no_ports x).port; slots = (cond b no_ports x).slots }) { general = λ n. 0; element = Rattle.std.proofs.Common.None }) (record e { writes = writes_of (cond b no_ports x).port; slots = (cond b no_ports x).slots })
by_name true x e = refl
by_name false x e = refl

-- an engine above 3 isn't named
off : (b c : Bool) (x y : Ports) → c ≡ false → cond (b && c) x y ≡ y
off true c x y is = ap (λ d. cond d x y) is
off false c x y is = refl

unnamed : (named : List Bool) (ports : ℕ → Ports) (k : ℕ) → is_named named k ≡ false → all named ports k ≡ cond (is_named named k) no_ports (ports k)
unnamed named ports k none =
    off (eqb k 3) (is_named named k) no_ports (one named 2 (one named 1 (one named 0 ports)) k) none
    ∙ off (eqb k 2) (is_named named k) no_ports (one named 1 (one named 0 ports) k) none
    ∙ off (eqb k 1) (is_named named k) no_ports (one named 0 ports k) none
    ∙ off (eqb k 0) (is_named named k) no_ports (ports k) none
    ∙ sym (ap (λ b. cond b no_ports (ports k)) none)

four : (named : List Bool) (ports : ℕ → Ports) (k : ℕ) → (4 ≤ k → is_named named k ≡ false) → all named ports k ≡ cond (is_named named k) no_ports (ports k)
four named ports zero none = refl
four named ports (suc zero) none = refl
four named ports (suc (suc zero)) none = refl
four named ports (suc (suc (suc zero))) none = refl
four named ports (suc (suc (suc (suc n)))) none = unnamed named ports (suc (suc (suc (suc n)))) (none (omega arith))

pub engines-reset : (named : List Bool) (old new : Mmio) → ((k : ℕ) → 4 ≤ k → is_named named k ≡ false)
    → map_of new.registers ≡ registers_reset named (map_of old.registers) → ((k : ℕ) → ports_at new k ≡ all named (ports_at old) k) → new.interrupts ≡ old.interrupts → SameGuest old new
    → (p : PrivateDevice) → engines_are_reset named (behind p old) ≡ rest_reset named (behind p new)
engines-reset named old new none registers ports interrupts same p =
    let at = λ (k : ℕ). by_name (is_named named k) (ports_at old k) (p.engines k)
    ∙ ap (λ (x : Ports). cond (is_named named k) (record (record (p.engines k) { writes = writes_of x.port; slots = x.slots }) { general = λ n. 0; element = Rattle.std.proofs.Common.None }) (record (p.engines k) { writes = writes_of x.port; slots = x.slots })) (sym (ports k ∙ four named (ports_at old) k (none k))) in
    λ i. record p {
      number = sym same.guest i;
      ranges = sym same.ranges i;
      registers = sym registers i;
      interrupts = sym interrupts i;
      engines = λ k. at k i;
    }
