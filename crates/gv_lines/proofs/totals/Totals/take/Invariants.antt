use Rattle.std.proofs.Common.{◌≡◌, drop}
use Rattle.gv_lines.specs.Summary.{totals_after}
use Rattle.gv_lines.proofs.totals.Totals.take.Given as goal

-- the bytes that are left make of the totals so far what all make of the first
abbrev pub invariant-loop-byte : goal.invariant-loop-byte
invariant-loop-byte l = totals_after l.self (drop l.byte-index l.bytes) ≡ totals_after l.fn.self l.bytes
