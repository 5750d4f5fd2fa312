use Rattle.gv_machine.specs.Report.{alarms_said, answer_said}
use Rattle.gv_machine.proofs.Text.{said_twice}
use Rattle.gv_run.proofs.Saying.{ok_then}
use Rattle.gv_run.proofs.tell.tell_reply.Goals as goal

pub returns : goal.returns
returns c =
    let reply = c.args.reply.now in
    ok_then c.tell_answer.result
    (said_twice c.args.report.now c.tell_alarms.new.report c.tell_answer.new.report (alarms_said reply) (answer_said c.args.event.now reply.guest reply.answer) c.in_ok-tell_alarms.ensures)
    c.tell_answer.ensures
