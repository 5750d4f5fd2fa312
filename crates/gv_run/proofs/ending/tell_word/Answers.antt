use Rattle.std.proofs.Common.{◌≡◌, ◌++◌, sym, subst, List, OnOk}
use Rattle.gv_text.specs.Report.{text_of}
use Rattle.gv_text.specs.declared.report_line.ReportLine.{ReportLine}
use Rattle.gv_run.proofs.Words.{one_word}
use Rattle.gv_run.proofs.ending.tell_word.Goals as goal

pub returns : goal.returns
returns c =
    subst (λ (lines : List ReportLine). OnOk c.tell.result (c.tell.new.report ≡ c.args.report.now ++ text_of lines))
    (sym (one_word c.args.guest.0 c.args.at c.args.value c.if-value-eq0.false)) c.tell.ensures
