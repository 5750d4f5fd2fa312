use Rattle.std.proofs.Common.{◌≤◌, ◌-◌, ◌*◌, length}
use Rattle.gv_arena.specs.Store.{joined, AreChunks, IsLonger}
use Rattle.gv_arena.proofs.store.Store.grow.Given as goal

abbrev pub invariant-loop-self : goal.invariant-loop-self
invariant-loop-self l = record {
  chunks : AreChunks l.self-inside.chunks.items;
  longer : IsLonger (joined l.initial.self-inside.chunks.items) (joined l.self-inside.chunks.items);
  within : length (joined l.self-inside.chunks.items) ≤ 131072;
}

abbrev pub decreases-loop-self : goal.decreases-loop-self
decreases-loop-self l = 131072 - length l.self-inside.chunks.items * 64
