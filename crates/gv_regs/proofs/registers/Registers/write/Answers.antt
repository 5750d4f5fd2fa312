use Rattle.std.proofs.Common.{◌∙◌, refl, ap}
use Rattle.gv_regs.specs.declared.table.Kind.TheVariants.{Plain, Masked}
use Rattle.gv_regs.specs.Registers.{map_of, register_written}
use Rattle.gv_regs.proofs.Maps.{written}
use Rattle.gv_regs.proofs.registers.Registers.write.Goals as goal

pub returns-in-Own-Plain-default-clause-map : goal.returns-in-Own-Plain-default-clause-map
returns-in-Own-Plain-default-clause-map c =
    let own = rw c.in-Own-Plain-default.field-0-is at c.in-Own-Plain-default.ensures in
    written c.self.inside.kept c.in-Own-Plain-default.slot c.args.offset c.args.value c.args.value Plain c.self.told own refl own.slot_is.0 own.slot_is.1 refl
    ∙ ap (λ file. register_written (map_of file) c.args.offset c.args.value) c.self.view_is

pub returns-in-Own-Masked-default-clause-map : goal.returns-in-Own-Masked-default-clause-map
returns-in-Own-Masked-default-clause-map c =
    let own = rw c.in-Own-Masked-default.field-0-is at c.in-Own-Masked-default.ensures in
    written c.self.inside.kept c.in-Own-Masked-default.slot c.args.offset c.args.value c.masked.result Masked c.self.told own refl own.slot_is.0 own.slot_is.1 c.masked.ensures.value
    ∙ ap (λ file. register_written (map_of file) c.args.offset c.args.value) c.self.view_is
