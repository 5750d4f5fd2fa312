use Rattle.std.proofs.Common.{◌≡◌, ◌++◌, ap, ◌∙◌, subst, List, OnOk}
use Rattle.gv_text.specs.Report.{text_of}
use Rattle.gv_text.specs.declared.report_line.ReportLine.{ReportLine}
use Rattle.gv_machine.proofs.Text.{said_none}
use Rattle.gv_run.proofs.tell.tell_answer.Goals as goal

pub returns-in-Some : goal.returns-in-Some
returns-in-Some c =
    let old = c.args.report.now in
    subst (λ (lines : List ReportLine). OnOk c.tell.result (c.tell.new.report ≡ old ++ text_of lines)) c.in-Some.ensures.value c.tell.ensures

pub returns-in-None : goal.returns-in-None
returns-in-None c = said_none c.args.report.now ∙ ap (λ lines. c.args.report.now ++ text_of lines) c.in-None.ensures.value
