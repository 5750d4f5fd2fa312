-- What holds of the fields of numbers.
use Rattle.std.specs.Prelude.{◌≡◌, ◌+◌, ◌≤◌, length, count_by, vec_capacity}
use Rattle.gv_arena.specs.Numbers.{AreFree}
use Rattle.gv_arena.specs.declared.numbers.Numbers.TheInside.{Inside}

pub record Hold (n : Inside) : Type 0 where
  pub free : AreFree n.marks.items n.free.items
  pub live : n.live ≡ count_by (λ mark. mark) n.marks.items
  pub all : n.live + length n.free.items ≡ length n.marks.items
  pub room : length n.marks.items ≤ vec_capacity n.free
  pub small : length n.marks.items ≤ 131072
