use Rattle.std.proofs.Common.{sym, ◌∙◌, subst}
use Rattle.gv_machine.specs.Course.{Course}
use Rattle.gv_machine.specs.Machine.{Machine, Done}
use Rattle.gv_mediator.specs.Tied.{machine_of}
use Rattle.gv_run.specs.Tied.{RunsCourse}
use Rattle.gv_run.proofs.OneEvent.{line-event}
use Rattle.gv_run.proofs.events.run_line.Goals as goal

pub returns-in-Some-clause-runs : goal.returns-in-Some-clause-runs
returns-in-Some-clause-runs g c =
    let d = g.G.Gpu.state c.args.gpu.now in
    let e = g.G.Gpu.state c.event.new.gpu in
    let same = sym (line-event (machine_of d c.args.mediator.now) c.args.line.now c.in-Some.one (sym c.event_of.ensures ∙ c.in-Some.is)) in
    subst (λ (course : Course Machine Done). RunsCourse course d c.args.report.now e (machine_of e c.event.new.mediator) c.event.new.report c.event.result) same c.event.ensures.runs
