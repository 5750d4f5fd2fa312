use Rattle.std.proofs.Common.{ap, refl, sym, ◌∙◌}
use Rattle.gv_gpu.specs.Device.{Device}
use Rattle.gv_run.proofs.Guests.{agrees-first, quiet-of}
use Rattle.gv_run.proofs.Summed.{made-none, made-lines, made-told, made-cut, made-whole}
use Rattle.gv_run.proofs.made.run_number.Goals as goal

pub returns-in_err-run-clause-part : goal.returns-in_err-run-clause-part
returns-in_err-run-clause-part g c = made-none c.args.number (g.G.Gpu.state c.args.gpu.now) (g.K.Sink.held c.args.sink.now)

pub run_made-requires-clause-agrees : goal.run_made-requires-clause-agrees
run_made-requires-clause-agrees g c = agrees-first (g.G.Gpu.state c.args.gpu.now) c.in_ok-run.run'.known c.in_ok-run.run'.stage c.requires c.in_ok-run.ensures.known c.in_ok-run.ensures.stage

pub returns-in_err-finish-clause-part : goal.returns-in_err-finish-clause-part
returns-in_err-finish-clause-part g c =
    made-lines c.args.number (g.K.Sink.held c.args.sink.now) c.in_ok-run_made.ensures.done c.finish.new.outlet (g.K.Sink.held c.finish.new.sink) c.finish.ensures.part

pub returns-in_err-tell_totals-clause-part : goal.returns-in_err-tell_totals-clause-part
returns-in_err-tell_totals-clause-part g c =
    made-told c.args.number (g.K.Sink.held c.args.sink.now) c.in_ok-run_made.ensures.done c.finish.new.outlet (g.K.Sink.held c.finish.new.sink) c.in_ok-finish.ensures.told

pub returns-in_err-flush-clause-part : goal.returns-in_err-flush-clause-part
returns-in_err-flush-clause-part g c =
    made-cut c.args.number (g.K.Sink.held c.args.sink.now) c.in_ok-run_made.ensures.done c.finish.new.outlet (g.K.Sink.held c.finish.new.sink) c.in_ok-finish.ensures.told
    c.finish.new.self.report c.tell_totals.new.report c.totals.result c.in_ok-finish.ensures.empty c.totals.ensures c.in_ok-tell_totals.ensures
    c.flush.new.self (g.K.Sink.held c.flush.new.sink) c.flush.ensures.passes

pub returns-clause-whole : goal.returns-clause-whole
returns-clause-whole g c =
    made-whole c.args.number (g.K.Sink.held c.args.sink.now) c.in_ok-run_made.ensures.done c.finish.new.outlet (g.K.Sink.held c.finish.new.sink) c.in_ok-finish.ensures.told
    c.finish.new.self.report c.tell_totals.new.report c.totals.result c.in_ok-finish.ensures.empty c.totals.ensures c.in_ok-tell_totals.ensures
    c.flush.new.self (g.K.Sink.held c.flush.new.sink) c.flush.ensures.passes c.in_ok-flush.ensures.ok (c.in_ok-finish.ensures.memories refl)

pub returns-clause-part : goal.returns-clause-part
returns-clause-part g c =
    made-cut c.args.number (g.K.Sink.held c.args.sink.now) c.in_ok-run_made.ensures.done c.finish.new.outlet (g.K.Sink.held c.finish.new.sink) c.in_ok-finish.ensures.told
    c.finish.new.self.report c.tell_totals.new.report c.totals.result c.in_ok-finish.ensures.empty c.totals.ensures c.in_ok-tell_totals.ensures
    c.flush.new.self (g.K.Sink.held c.flush.new.sink) c.flush.ensures.passes

pub returns-clause-quiet : goal.returns-clause-quiet
returns-clause-quiet g c =
    quiet-of (g.G.Gpu.state c.run_made.new.gpu) c.run_made.new.run.known c.run_made.new.run.stage c.in_ok-run_made.ensures.agrees ∙ sym (ap (λ (x : Device). x.faults) c.requires)
