use Rattle.std.proofs.Common.{◌∙◌, ap, subst, Some}
use Rattle.gv_run.specs.Headline.{SumsUp}
use Rattle.gv_run.proofs.GenWords.{same-number}
use Rattle.gv_run.proofs.call.mediate.Goals as goal

pub returns-in-Ok-Gen-clause-sums_up : goal.returns-in-Ok-Gen-clause-sums_up
returns-in-Ok-Gen-clause-sums_up g c = λ number names.
    let held = g.K.Sink.held in
    let writes = g.K.Sink.faults in
    let sink = c.sum_number_up.new.sink in
    subst (λ n. SumsUp n c.sum_number_up.result (held c.args.sink.now) (held sink) (writes c.args.sink.now) (writes sink) (g.G.Gpu.state c.args.gpu.now) (g.G.Gpu.state c.sum_number_up.new.gpu))
    (same-number _ c.in-Ok-Gen.number number names (c.in-Ok-Gen.ensures.task ∙ ap Some c.in-Ok-Gen.field-0-is)) c.sum_number_up.ensures
