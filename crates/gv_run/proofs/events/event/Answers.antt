use Rattle.std.proofs.Common.{[], ◌∷◌, ◌++◌, List, refl, ap, sym, ◌∙◌, arith}
use Rattle.std.proofs.lemmas.Result.{err_from_is_err_and}
use Rattle.gv_private.specs.Inputs.{event}
use Rattle.gv_text.specs.Report.{text_of}
use Rattle.gv_text.specs.declared.report_line.ReportLine.{ReportLine}
use Rattle.gv_mediator.specs.Tied.{machine_of}
use Rattle.gv_machine.specs.Machine.{input_course}
use Rattle.gv_run.proofs.CourseRuns.{rose, runs-done, runs-lacking, runs-stopped}
use Rattle.gv_run.proofs.Left.{ran-before, ran-whole}
use Rattle.gv_run.proofs.OneEvent.{stands-played, some-guest, event-below, comes, comes-ran}
use Rattle.gv_run.proofs.events.event.Goals as goal

pub returns-in_err-reply-clause-runs : goal.returns-in_err-reply-clause-runs
returns-in_err-reply-clause-runs g c =
    let stop = c.in_err-reply.field-0.0 in
    let stops = c.in_err-reply.ensures.stops in
    let p = err_from_is_err_and c.from_residual.result c.from_residual.ensures.1 in
    rw (p.1, p.2) (runs-stopped _ _ _ _ _ _ _ stop refl (ran-before stops.stopped _) (λ fault. rose c.requires.stands.quiet (stops.cause fault)) stops.memory)

pub tell_reply-requires-clause-there : goal.tell_reply-requires-clause-there
tell_reply-requires-clause-there g c =
    let d = g.G.Gpu.state c.args.gpu.now in
    let stands = c.requires.stands in
    let came = comes (machine_of d c.args.mediator.now) c.args.event.now stands.whole (some-guest d c.args.mediator.now stands.tied) c.requires.event c.requires.alone in
    let there = came.there c.in_ok-reply.reply c.in_ok-reply.ensures.answers.reply in
    let eight = stands.eight in
    omega arith

pub returns-in_err-tell_reply-clause-runs : goal.returns-in_err-tell_reply-clause-runs
returns-in_err-tell_reply-clause-runs g c =
    let d = g.G.Gpu.state c.args.gpu.now in
    let m = machine_of d c.args.mediator.now in
    let stands = c.requires.stands in
    let came = comes m c.args.event.now stands.whole (some-guest d c.args.mediator.now stands.tied) c.requires.event c.requires.alone in
    let part = ran-whole (comes-ran m c.args.event.now came c.in_ok-reply.ensures.answers.ran) in
    let p = err_from_is_err_and c.from_residual-in_err-tell_reply.result c.from_residual-in_err-tell_reply.ensures.1 in
    rw (p.1, p.2) (runs-lacking _ _ _ _ _ _ _ refl part c.in_ok-reply.ensures.answers.quiet)

pub returns-clause-stands : goal.returns-clause-stands
returns-clause-stands g c =
    let d = g.G.Gpu.state c.args.gpu.now in
    let m = machine_of d c.args.mediator.now in
    let one = c.args.event.now in
    let stands = c.requires.stands in
    let some = some-guest d c.args.mediator.now stands.tied in
    let came = comes m one stands.whole some c.requires.event c.requires.alone in
    stands-played d _ c.args.mediator.now c.event.new.self (event one ∷ []) stands
    (event-below m one c.requires.event some, tt)
    c.in_ok-reply.ensures.answers.tied c.in_ok-reply.ensures.stopped c.in_ok-reply.ensures.answers.quiet
    (c.in_ok-reply.ensures.answers.machine ∙ came.left)

pub returns-clause-runs : goal.returns-clause-runs
returns-clause-runs g c =
    let d = g.G.Gpu.state c.args.gpu.now in
    let e = g.G.Gpu.state c.event.new.gpu in
    let m = machine_of d c.args.mediator.now in
    let one = c.args.event.now in
    let stands = c.requires.stands in
    let came = comes m one stands.whole (some-guest d c.args.mediator.now stands.tied) c.requires.event c.requires.alone in
    let given = c.in_ok-reply.ensures.answers in
    runs-done (input_course m (event one)) d c.args.report.now e (machine_of e c.event.new.self) c.tell_reply.new.report _ (record {
      machine = given.machine ∙ came.left;
      report = c.in_ok-tell_reply.ensures ∙ ap (λ (lines : List ReportLine). c.args.report.now ++ text_of lines) (sym (came.said c.in_ok-reply.reply given.reply));
      ran = comes-ran m one came given.ran;
    }) given.quiet
