use Rattle.std.proofs.Common.{◌*◌, ◌≤◌, ◌++◌, drop}
use Rattle.gv_lines.specs.Outlet.{got}
use Rattle.std.specs.List.{concat}
use Rattle.gv_machine.specs.Machine.{device_at}
use Rattle.gv_mediator.specs.Tied.{machine_of}
use Rattle.gv_text.specs.Report.{text_of}
use Rattle.gv_machine.specs.Report.{words_said, memory_said}
use Rattle.gv_run.proofs.Saying.{Saying}
use Rattle.gv_run.proofs.ending.tell_memory.Given as goal

-- the words so far and those that are left are all words
abbrev pub invariant-loop-number : goal.invariant-loop-number
invariant-loop-number g l =
    let memory = (device_at (machine_of (g.G.Gpu.state l.gpu) l.mediator).devices l.guest.0).memory in
    let held = g.K.Sink.held in
    let faults = g.K.Sink.faults in
    record {
      saying : Saying (l.fn.report ++ text_of (memory_said l.guest.0 memory)) (text_of (words_said l.guest.0 (l.number * 8) (drop l.number (concat memory)))) l.report (got l.fn.outlet (held l.fn.sink)) (got l.outlet (held l.sink));
      later : faults l.fn.sink ≤ faults l.sink;
    }
