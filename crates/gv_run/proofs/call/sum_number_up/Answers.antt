use Rattle.std.proofs.Common.{Err, ap, sym, ◌∙◌, subst}
use Rattle.gv_run.specs.Headline.{SumsUp}
use Rattle.gv_run.specs.declared.call.Status.{Status}
use Rattle.gv_run.proofs.Commands.{summed-up, summing-stopped}
use Rattle.gv_run.proofs.call.sum_number_up.Goals as goal

pub returns-in-Ok : goal.returns-in-Ok
returns-in-Ok g c =
    let held = g.K.Sink.held in
    let writes = g.K.Sink.faults in
    let sink = c.run_number.new.sink in
    summed-up (held c.args.sink.now) (held sink) (writes c.args.sink.now) (writes sink) (g.G.Gpu.state c.args.gpu.now) (g.G.Gpu.state c.run_number.new.gpu) c.requires.empty c.run_number.ensures.strays
    c.args.number c.run_number.ensures.part c.in-Ok.ensures.whole c.in-Ok.ensures.quiet

pub returns-in-Err : goal.returns-in-Err
returns-in-Err g c =
    let held = g.K.Sink.held in
    let writes = g.K.Sink.faults in
    let d = g.G.Gpu.state c.args.gpu.now in
    let e = g.G.Gpu.state c.run_number.new.gpu in
    let sink = c.run_number.new.sink in
    let made = c.run_number.ensures in
    subst (λ (status : Status). SumsUp c.args.number status (held c.args.sink.now) (held sink) (writes c.args.sink.now) (writes sink) d e) (sym c.status_of_stop.ensures)
    (summing-stopped (held c.args.sink.now) (held sink) (writes c.args.sink.now) (writes sink) d e c.requires.empty made.strays c.args.number made.part c.in-Err.stopped
    (λ is. made.reads (c.in-Err.is ∙ ap Err is)) (λ is. made.write (c.in-Err.is ∙ ap Err is)) (λ is. made.device (c.in-Err.is ∙ ap Err is))
    (λ is. made.memory (c.in-Err.is ∙ ap Err is)) (λ is. made.writing (c.in-Err.is ∙ ap Err is)))
