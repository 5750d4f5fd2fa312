use Rattle.std.proofs.Common.{eqb, ◌&&◌, cond, ap, ◌∙◌}
use Rattle.gv_private.specs.Registers.{is_named, one_registers_reset}
use Rattle.gv_mmio.specs.Ports.{no_ports}
use Rattle.gv_mmio.proofs.Resets.{engines-reset}
use Rattle.gv_mmio.proofs.mmio.Mmio.reset_engines.Goals as goal

pub returns-clause-device : goal.returns-clause-device
returns-clause-device c =
    let named = c.args.named in
    let a = c.reset_if_named.ensures in
    let b = c.reset_if_named-2.ensures in
    let d = c.reset_if_named-3.ensures in
    let e = c.reset_if_named-4.ensures in
    engines-reset named c.args.self.now c.reset_if_named-4.new.self c.requires
    (e.registers ∙ ap (one_registers_reset named 3) (d.registers ∙ ap (one_registers_reset named 2) (b.registers ∙ ap (one_registers_reset named 1) a.registers)))
    (λ k. e.ports k
    ∙ ap (cond (eqb k 3 && is_named named k) no_ports) (d.ports k
    ∙ ap (cond (eqb k 2 && is_named named k) no_ports) (b.ports k
    ∙ ap (cond (eqb k 1 && is_named named k) no_ports) (a.ports k))))
    (e.interrupts ∙ d.interrupts ∙ b.interrupts ∙ a.interrupts)
    (record { guest = e.same.guest ∙ d.same.guest ∙ b.same.guest ∙ a.same.guest; ranges = e.same.ranges ∙ d.same.ranges ∙ b.same.ranges ∙ a.same.ranges })
