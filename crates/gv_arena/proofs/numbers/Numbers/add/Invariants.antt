use Rattle.std.proofs.Common.{◌≡◌, ◌+◌, ◌≤◌, ◌++◌, false, length, replicate}
use Rattle.std.specs.Prelude.{vec_capacity}
use Rattle.gv_arena.specs.Numbers.{AreFree}
use Rattle.gv_arena.proofs.numbers.Numbers.add.Given as goal

abbrev pub invariant-loop-step : goal.invariant-loop-step
invariant-loop-step l = record {
  free : AreFree l.self-inside.marks.items l.self-inside.free.items;
  marks : l.self-inside.marks.items ≡ l.initial.self-inside.marks.items ++ replicate l._step false;
  more : length l.self-inside.free.items ≡ length l.initial.self-inside.free.items + l._step;
  live : l.self-inside.live ≡ l.initial.self-inside.live;
  marks_room : length l.initial.self-inside.marks.items + l.more ≤ vec_capacity l.self-inside.marks;
  free_room : length l.initial.self-inside.marks.items + l.more ≤ vec_capacity l.self-inside.free;
}
