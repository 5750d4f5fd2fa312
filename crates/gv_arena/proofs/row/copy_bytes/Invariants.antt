use Rattle.std.proofs.Common.{◌≡◌, ◌-◌, ◌≤◌, length}
use Rattle.gv_arena.specs.Rows.{bytes_of, AreWords, IsCopied}
use Rattle.gv_arena.proofs.row.copy_bytes.Given as goal

abbrev pub invariant-loop-done : goal.invariant-loop-done
invariant-loop-done l = record {
  within : l.done ≤ l.count;
  long : length l.target ≡ 512;
  words : AreWords l.target;
  copied : IsCopied (bytes_of l.source) (bytes_of l.initial.target) (bytes_of l.target) l.from_byte l.to_byte l.done;
}

abbrev pub decreases-loop-done : goal.decreases-loop-done
decreases-loop-done l = l.count - l.done
