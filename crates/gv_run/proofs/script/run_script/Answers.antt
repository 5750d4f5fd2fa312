use Rattle.std.proofs.Common.{ap, sym, ◌∙◌}
use Rattle.gv_gpu.specs.Device.{Device}
use Rattle.gv_lines.specs.Reader.{new_reader}
use Rattle.gv_text.specs.Script.{script_limit-is}
use Rattle.gv_run.proofs.Finishing.{begun-none, finish-begun, finishes}
use Rattle.gv_run.proofs.Guests.{agrees-first, quiet-of}
use Rattle.gv_run.proofs.Streaming.{if_some}
use Rattle.gv_run.proofs.script.run_script.Goals as goal

pub returns-in_err-run-clause-begun : goal.returns-in_err-run-clause-begun
returns-in_err-run-clause-begun g c = begun-none (g.S.Source.left c.args.source.now) (g.G.Gpu.state c.args.gpu.now) (g.K.Sink.held c.args.sink.now)

pub returns-in_err-reader-clause-begun : goal.returns-in_err-reader-clause-begun
returns-in_err-reader-clause-begun g c = begun-none (g.S.Source.left c.args.source.now) (g.G.Gpu.state c.args.gpu.now) (g.K.Sink.held c.args.sink.now)

pub run_lines-requires-clause-reader : goal.run_lines-requires-clause-reader
run_lines-requires-clause-reader g c = c.in_ok-reader.ensures ∙ ap new_reader (sym script_limit-is)

pub run_lines-requires-clause-agrees : goal.run_lines-requires-clause-agrees
run_lines-requires-clause-agrees g c = agrees-first (g.G.Gpu.state c.args.gpu.now) c.in_ok-run.run'.known c.in_ok-run.run'.stage c.requires c.in_ok-run.ensures.known c.in_ok-run.ensures.stage

pub returns-in_err-finish-clause-begun : goal.returns-in_err-finish-clause-begun
returns-in_err-finish-clause-begun g c =
    if_some (g.S.Source.left c.args.source.now) (λ bytes is lines. finish-begun bytes lines c.finish.new.outlet (g.K.Sink.held c.finish.new.sink) c.finish.ensures.part) c.in_ok-ending.ensures.done

pub returns-clause-finishes : goal.returns-clause-finishes
returns-clause-finishes g c =
    if_some (g.S.Source.left c.args.source.now) (λ bytes is lines. finishes bytes lines c.finish.new.outlet (g.K.Sink.held c.finish.new.sink) c.finish.ensures.memories c.in_ok-finish.ensures.told) c.in_ok-ending.ensures.done

pub returns-clause-begun : goal.returns-clause-begun
returns-clause-begun g c =
    if_some (g.S.Source.left c.args.source.now) (λ bytes is lines. finish-begun bytes lines c.finish.new.outlet (g.K.Sink.held c.finish.new.sink) c.finish.ensures.part) c.in_ok-ending.ensures.done

pub returns-clause-quiet : goal.returns-clause-quiet
returns-clause-quiet g c =
    quiet-of (g.G.Gpu.state c.run_lines.new.gpu) c.run_lines.new.run.known c.run_lines.new.run.stage c.in_ok-ending.ensures.agrees ∙ sym (ap (λ (x : Device). x.faults) c.requires)
