use Rattle.std.proofs.Common.{[], ◌∷◌}
use Rattle.gv_text.specs.declared.report_line.ReportLine.TheVariants as said
use Rattle.gv_machine.proofs.Text.{said_twice}
use Rattle.gv_run.proofs.Saying.{ok_then}
use Rattle.gv_run.proofs.Summed.{said-thrice}
use Rattle.gv_run.proofs.made.tell_totals.Goals as goal

pub returns : goal.returns
returns c =
    let totals = c.args.totals.now in
    ok_then c.tell-3.result
    (said-thrice c.args.report.now c.tell.new.report c.tell-2.new.report c.tell-3.new.report (said.Lines totals.lines) (said.Bytes totals.bytes) (said.Fold totals.fold) c.in_ok-tell.ensures c.in_ok-tell-2.ensures)
    c.tell-3.ensures
