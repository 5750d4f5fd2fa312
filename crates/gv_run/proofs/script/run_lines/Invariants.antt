use Rattle.std.proofs.Common.{◌≡◌, ◌+◌, ◌-◌, ◌≤◌, length}
use Rattle.gv_text.specs.Script.{script_limit}
use Rattle.gv_run.specs.Tied.{Agrees, machine_in}
use Rattle.gv_run.proofs.Streaming.{Reading}
use Rattle.gv_run.proofs.script.run_lines.Given as goal

abbrev pub invariant-loop-next : goal.invariant-loop-next
invariant-loop-next g l =
    let now = g.G.Gpu.state l.gpu in
    let start = g.G.Gpu.state l.fn.gpu in
    let left = g.S.Source.left in
    let held = g.K.Sink.held in
    record {
      agrees : Agrees now l.run.known l.run.stage;
      reading : Reading start (held l.fn.sink) (left l.fn.source) l.reader (left l.source) l.run.known l.number (machine_in now l.run.stage) l.run.report now (held l.sink);
      numbered : l.number + length l.reader.held ≤ l.reader.taken + 1;
      within : l.reader.taken ≤ script_limit + 1;
      limit : l.reader.limit ≡ script_limit;
      strays : now.strays ≡ start.strays;
      quiet : now.faults ≡ start.faults;
      reads : g.S.Source.faults l.fn.source ≤ g.S.Source.faults l.source;
      writes : g.K.Sink.faults l.fn.sink ≤ g.K.Sink.faults l.sink;
    }

abbrev pub decreases-loop-next : goal.decreases-loop-next
decreases-loop-next g l = l.reader.limit + 1 + length l.reader.held - l.reader.taken
