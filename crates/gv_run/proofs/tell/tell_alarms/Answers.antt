use Rattle.gv_machine.specs.Report.{irq_said, failsafe_said}
use Rattle.gv_machine.proofs.Text.{said_twice}
use Rattle.gv_run.proofs.Saying.{ok_then}
use Rattle.gv_run.proofs.tell.tell_alarms.Goals as goal

pub returns : goal.returns
returns c =
    let reply = c.args.reply.now in
    ok_then c.tell_failsafe.result
    (said_twice c.args.report.now c.tell_irq.new.report c.tell_failsafe.new.report (irq_said reply.guest reply.irq) (failsafe_said reply.guest reply.failsafe) c.in_ok-tell_irq.ensures)
    c.tell_failsafe.ensures
