use Rattle.std.proofs.Common.{◌≡◌, ◌≤◌}
use Rattle.gv_gen.specs.Made.{script_made}
use Rattle.gv_lines.specs.Outlet.{got}
use Rattle.gv_run.specs.Tied.{Agrees, machine_in}
use Rattle.gv_run.proofs.Making.{Making}
use Rattle.gv_run.proofs.made.run_made.Given as goal

abbrev pub invariant-loop-line : goal.invariant-loop-line
invariant-loop-line g l =
    let now = g.G.Gpu.state l.gpu in
    let start = g.G.Gpu.state l.fn.gpu in
    let held = g.K.Sink.held in
    record {
      agrees : Agrees now l.run.known l.run.stage;
      making : Making (script_made l.number) start (got l.fn.outlet (held l.fn.sink)) l.line-iterator l.run.known (machine_in now l.run.stage) l.run.report now (got l.outlet (held l.sink));
      strays : now.strays ≡ start.strays;
      quiet : now.faults ≡ start.faults;
      writes : g.K.Sink.faults l.fn.sink ≤ g.K.Sink.faults l.sink;
    }
