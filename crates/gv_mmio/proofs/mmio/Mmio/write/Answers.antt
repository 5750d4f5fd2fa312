use Rattle.std.proofs.Common.{◌≡◌, List, Bool, refl, sym, ap, ◌∙◌, subst}
use Rattle.gv_regs.specs.Registers.{IsTarget}
use Rattle.gv_regs.specs.declared.effect.Target.{Target}
use Rattle.gv_regs.specs.declared.effect.Target.TheVariants.{EngineReset, StatusPointer}
use Rattle.gv_private.specs.Device.{PrivateDevice, quietly, with_slots}
use Rattle.gv_private.specs.Registers.{dword_written_by, engines_are_reset}
use Rattle.gv_csb.specs.Slots.{pointer_written}
use Rattle.gv_mmio.specs.Mmio.{behind, ports_at}
use Rattle.gv_mmio.specs.declared.mmio.Mmio.{Mmio}
use Rattle.gv_mmio.proofs.Behind.{behind-same}
use Rattle.gv_mmio.proofs.Ported.{port-writes}
use Rattle.gv_mmio.proofs.mmio.Mmio.write.Goals as goal

pub returns-in-Goes-Elsp-clause-wrote : goal.returns-in-Goes-Elsp-clause-wrote
returns-in-Goes-Elsp-clause-wrote c =
    let old = c.args.self.now in
    let went = c.in-Goes-Elsp in
    let middle : Mmio = record old { registers = c.write.new.self } in
    port-writes old middle c.write_port.new.self c.args.offset c.args.value went.engine (went.ensures.form.0 ∙ went.field-0-is)
    (subst (IsTarget c.args.offset) went.field-0-is went.ensures.form.1)
    (behind-same old middle went.ensures.left refl refl (record { guest = went.ensures.guest; ranges = went.ensures.ranges }))
    c.write_port.result c.write_port.ensures.wrote

pub returns-in-Goes-StatusPointer-clause-wrote : goal.returns-in-Goes-StatusPointer-clause-wrote
returns-in-Goes-StatusPointer-clause-wrote c = (
  λ is. let same : StatusPointer c.in-Goes-StatusPointer.engine ≡ EngineReset = sym (c.in-Goes-StatusPointer.ensures.form.0 ∙ c.in-Goes-StatusPointer.field-0-is) ∙ is in cc,
  λ p.
      let old = c.args.self.now in
      let went = c.in-Goes-StatusPointer in
      let engine = went.engine.0 in
      let middle : Mmio = record old { registers = c.write.new.self } in
      let same = behind-same old middle went.ensures.left refl refl (record { guest = went.ensures.guest; ranges = went.ensures.ranges }) p in
      ap (λ (t : Target). dword_written_by t (behind p old) c.args.offset c.args.value) (went.ensures.form.0 ∙ went.field-0-is)
      ∙ ap (λ (q : PrivateDevice). quietly (with_slots q engine (pointer_written (ports_at old engine).slots c.args.value))) (sym same)
      ∙ ap quietly (sym (c.write_pointer.ensures.device p)),
)

pub returns-in-Goes-EngineReset-clause-wrote : goal.returns-in-Goes-EngineReset-clause-wrote
returns-in-Goes-EngineReset-clause-wrote c = (
  c.in-Goes-EngineReset.ensures.form.0 ∙ c.in-Goes-EngineReset.field-0-is,
  c.engines_reset-named.ensures,
  λ p.
      let old = c.args.self.now in
      let went = c.in-Goes-EngineReset in
      let middle : Mmio = record old { registers = c.write.new.self } in
      let same = behind-same old middle went.ensures.left refl refl (record { guest = went.ensures.guest; ranges = went.ensures.ranges }) p in
      ap (λ (t : Target). dword_written_by t (behind p old) c.args.offset c.args.value) (went.ensures.form.0 ∙ went.field-0-is)
      ∙ ap (λ (named : List Bool). quietly (engines_are_reset named (behind p old))) (sym c.engines_reset-named.ensures)
      ∙ ap (λ (q : PrivateDevice). quietly (engines_are_reset c.engines_reset-named.result q)) (sym same)
      ∙ ap quietly (c.reset_engines.ensures.device p),
)
