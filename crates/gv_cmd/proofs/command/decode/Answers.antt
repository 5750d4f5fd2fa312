use Rattle.std.proofs.Common.{is_some, take, ap, sym, ◌∙◌}
use Rattle.gv_cmd.specs.Command.{IsCommand}
use Rattle.gv_cmd.specs.Table.{length_of}
use Rattle.gv_cmd.proofs.Keeping.{front_command, decoded-own}
use Rattle.gv_cmd.proofs.command.decode.Goals as goal

pub returns-clause-own : goal.returns-clause-own
returns-clause-own c = λ rest.
    let command : IsCommand (take c.in-Some.count c.args.words.now) =
    front_command c.args.words.now c.in-Some.count
    (ap length_of (sym c.dword.ensures) ∙ sym c.in-Some.ensures.value)
    c.in-Some.ensures.form.0 c.if-count-words.false
    (ap is_some (sym c.kind_of.ensures.value) ∙ c.if-is_none.ensures) in
    decoded-own c.args.words.now c.in-Some.count c.new.result rest c.new.ensures c.in-Some.ensures.form.0 c.if-count-words.false command
