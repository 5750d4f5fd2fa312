use Rattle.std.proofs.Common.{Err, ap, sym, ◌∙◌, subst}
use Rattle.gv_run.specs.Headline.{RunsScript}
use Rattle.gv_run.specs.declared.call.Status.{Status}
use Rattle.gv_run.proofs.Commands.{script-ended, script-stopped}
use Rattle.gv_run.proofs.call.run_source.Goals as goal

pub returns-in-Ok : goal.returns-in-Ok
returns-in-Ok g c =
    let left = g.S.Source.left in
    let reads = g.S.Source.faults in
    let held = g.K.Sink.held in
    let writes = g.K.Sink.faults in
    let d = g.G.Gpu.state c.args.gpu.now in
    let e = g.G.Gpu.state c.run_script.new.gpu in
    let source = c.run_script.new.source in
    let sink = c.run_script.new.sink in
    subst (λ (status : Status). RunsScript status (left c.args.source.now) (left source) (reads c.args.source.now) (reads source) (held c.args.sink.now) (held sink) (writes c.args.sink.now) (writes sink) d e) (sym c.status_of.ensures)
    (script-ended (held c.args.sink.now) (held sink) (writes c.args.sink.now) (writes sink) d e c.requires.empty c.run_script.ensures.strays (left c.args.source.now) (left source) (reads c.args.source.now) (reads source)
    c.run_script.ensures.begun c.run_script.ensures.taken c.in-Ok.ending c.in-Ok.ensures.finishes c.in-Ok.ensures.quiet)

pub returns-in-Err : goal.returns-in-Err
returns-in-Err g c =
    let left = g.S.Source.left in
    let reads = g.S.Source.faults in
    let held = g.K.Sink.held in
    let writes = g.K.Sink.faults in
    let d = g.G.Gpu.state c.args.gpu.now in
    let e = g.G.Gpu.state c.run_script.new.gpu in
    let source = c.run_script.new.source in
    let sink = c.run_script.new.sink in
    let script = c.run_script.ensures in
    subst (λ (status : Status). RunsScript status (left c.args.source.now) (left source) (reads c.args.source.now) (reads source) (held c.args.sink.now) (held sink) (writes c.args.sink.now) (writes sink) d e) (sym c.status_of_stop.ensures)
    (script-stopped (held c.args.sink.now) (held sink) (writes c.args.sink.now) (writes sink) d e c.requires.empty script.strays (left c.args.source.now) (left source) (reads c.args.source.now) (reads source)
    script.begun script.taken c.in-Err.stopped
    (λ is. script.fault (c.in-Err.is ∙ ap Err is)) (λ is. script.read (c.in-Err.is ∙ ap Err is)) (λ is. script.write (c.in-Err.is ∙ ap Err is)) (λ is. script.device (c.in-Err.is ∙ ap Err is))
    (λ is. script.memory (c.in-Err.is ∙ ap Err is)) (λ is. script.reading (c.in-Err.is ∙ ap Err is)) (λ is. script.writing (c.in-Err.is ∙ ap Err is)))
