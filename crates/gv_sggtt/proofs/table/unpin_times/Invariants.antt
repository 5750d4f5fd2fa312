use Rattle.std.proofs.Common.{◌≡◌, ◌-◌, get_or, set}
use Rattle.gv_sggtt.proofs.table.unpin_times.Given as goal

abbrev pub invariant-loop-pin : goal.invariant-loop-pin
invariant-loop-pin l = l.pins ≡ set l.initial.pins l.frame (get_or l.initial.pins l.frame 0 - l._pin)
