use Rattle.std.proofs.Common.{◌≤◌, ◌-◌, drop, vec_len}
use Rattle.gv_lines.specs.Writer.{PassesOn}
use Rattle.gv_lines.proofs.writer.write_out.Given as goal

abbrev pub invariant-loop-written : goal.invariant-loop-written
invariant-loop-written g l =
    let held = g.K.Sink.held in
    let faults = g.K.Sink.faults in
    record {
      within : l.written ≤ vec_len l.buffer;
      passes : PassesOn (drop l.fn.written l.buffer.items) (drop l.written l.buffer.items) (held l.fn.sink) (held l.sink);
      later : faults l.fn.sink ≤ faults l.sink;
    }

abbrev pub decreases-loop-written : goal.decreases-loop-written
decreases-loop-written g l = vec_len l.buffer - l.written
