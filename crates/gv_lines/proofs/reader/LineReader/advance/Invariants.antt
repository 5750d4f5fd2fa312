use Rattle.std.proofs.Common.{◌≡◌, ◌≤◌, []}
use Rattle.gv_lines.specs.Reader.{HandsOut, Relates, calls_left}
use Rattle.gv_lines.proofs.reader.LineReader.advance.Given as goal

abbrev pub invariant-loop-next : goal.invariant-loop-next
invariant-loop-next g l =
    let left = g.S.Source.left in
    let faults = g.S.Source.faults in
    record {
      hands_out : HandsOut l.fn.self l.self (left l.fn.source) (left l.source) [];
      kept : Relates (λ before after. after ≡ before) l.fn.self (left l.fn.source) l.self (left l.source);
      later : faults l.fn.source ≤ faults l.source;
    }

abbrev pub decreases-loop-next : goal.decreases-loop-next
decreases-loop-next g l = calls_left l.self
