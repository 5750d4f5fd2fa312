use Rattle.std.proofs.Common.{◌≡◌, ◌∙◌, ap, sym, length, arith}
use Rattle.gv_fetch.proofs.Reading.{length-dwords}
use Rattle.gv_fetch.proofs.Forms.{listed-some}
use Rattle.gv_cmd.specs.Table.{length_of}
use Rattle.gv_scan.proofs.FrontCommand.{unlisted}
use Rattle.gv_scan.proofs.command.batch_command.Goals as goal

pub returns-in_default-command_at-clause-value : goal.returns-in_default-command_at-clause-value
returns-in_default-command_at-clause-value g c =
    sym (unlisted (g.R.Reader.space c.args.reader.now) c.args.engine.0 c.args.stands c.args.at c.args.budget c.in-Some.count
    (sym c.owned.ensures ∙ c.if-not-owned.false) (ap length_of (sym c.word.ensures) ∙ sym c.length.ensures.value ∙ c.in-Some.is) (sym c.owns_dwords.ensures ∙ c.if-not-owns_dwords.false) c.in_default-command_at.ensures)

pub returns-clause-long : goal.returns-clause-long
returns-clause-long g c =
    let e : length c.in-Some-command_at.command ≡ c.in-Some.count = ap length c.in-Some-command_at.ensures ∙ length-dwords (g.R.Reader.space c.args.reader.now).word c.args.at c.in-Some.count in
    let some = listed-some ((g.R.Reader.space c.args.reader.now).word c.args.at) c.in-Some.count (ap length_of (sym c.word.ensures) ∙ sym c.length.ensures.value ∙ c.in-Some.is) in
    let few = c.if-count-budget.false in
    (omega arith, omega arith)
