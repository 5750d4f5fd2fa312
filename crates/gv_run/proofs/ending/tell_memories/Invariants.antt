use Rattle.std.proofs.Common.{◌≤◌, ◌++◌, drop}
use Rattle.gv_lines.specs.Outlet.{got}
use Rattle.gv_text.specs.Report.{text_of}
use Rattle.gv_machine.specs.Report.{memories_said}
use Rattle.gv_mediator.specs.Tied.{machine_of}
use Rattle.gv_run.proofs.Saying.{Saying}
use Rattle.gv_run.proofs.ending.tell_memories.Given as goal

-- the guests so far and those that are left are all guests
abbrev pub invariant-loop-number : goal.invariant-loop-number
invariant-loop-number g l =
    let machine = (machine_of (g.G.Gpu.state l.gpu) l.mediator).devices in
    let held = g.K.Sink.held in
    let faults = g.K.Sink.faults in
    record {
      saying : Saying (l.fn.report ++ text_of (memories_said 0 machine)) (text_of (memories_said l.number (drop l.number machine))) l.report (got l.fn.outlet (held l.fn.sink)) (got l.outlet (held l.sink));
      later : faults l.fn.sink ≤ faults l.sink;
    }
