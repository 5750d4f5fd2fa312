use Rattle.std.proofs.Common.{◌≡◌, drop}
use Rattle.gv_machine.specs.Machine.{port_writes}
use Rattle.gv_mediator.specs.Tied.{machine_of}
use Rattle.gv_run.specs.Tied.{Stands}
use Rattle.gv_run.proofs.Loops.{Going}
use Rattle.gv_run.proofs.events.submit.Given as goal

-- what was done and what is left is all that is to do
abbrev pub invariant-loop-value : goal.invariant-loop-value
invariant-loop-value g l =
    let start = g.G.Gpu.state l.fn.gpu in
    let now = g.G.Gpu.state l.gpu in
    record {
      stands : Stands now l.mediator;
      quiet : now.faults ≡ start.faults;
      going : Going (machine_of start l.fn.mediator) (port_writes l.guest l.engine l.values) l.fn.report start (machine_of now l.mediator) (port_writes l.guest l.engine (drop l.value-index l.values)) l.report now;
    }
