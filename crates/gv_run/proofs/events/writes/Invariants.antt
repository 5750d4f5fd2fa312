use Rattle.std.proofs.Common.{◌≡◌, ◌+◌, ◌*◌, drop}
use Rattle.gv_types.specs.Memory.{bytes_of}
use Rattle.gv_machine.specs.Machine.{writes_of}
use Rattle.gv_mediator.specs.Tied.{machine_of}
use Rattle.gv_run.specs.Tied.{Stands}
use Rattle.gv_run.proofs.Loops.{Going}
use Rattle.gv_run.proofs.events.writes.Given as goal

-- what was done and what is left is all that is to do
abbrev pub invariant-loop-index : goal.invariant-loop-index
invariant-loop-index g l =
    let start = g.G.Gpu.state l.fn.gpu in
    let now = g.G.Gpu.state l.gpu in
    let rest = writes_of l.guest l.place l.width (l.at + bytes_of l.width * l.index) (drop l.index l.values) in
    record {
      stands : Stands now l.mediator;
      quiet : now.faults ≡ start.faults;
      going : Going (machine_of start l.fn.mediator) (writes_of l.guest l.place l.width l.at l.values) l.fn.report start (machine_of now l.mediator) rest l.report now;
    }
