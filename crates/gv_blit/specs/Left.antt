-- The rows from a y on.
use Rattle.std.specs.Prelude.{ℕ, ◌-◌, ◌≤◌, nat_lt, List, [], map, if◌then◌else◌}
use Rattle.std.specs.List.{range_with_len}
use Rattle.gv_cmd.specs.Kind.{IsBlit}
use Rattle.gv_cmd.specs.Rows.{row}
use Rattle.gv_cmd.specs.declared.blit.Blit.{Blit}
use Rattle.gv_cmd.specs.declared.blit.RowPair.{RowPair}

abbrev pub rows_left : Blit → ℕ → List RowPair
rows_left b y = if nat_lt b.x1 b.x2 then map (row b) (range_with_len y (b.y2 - y)) else []

pub record AreLeft (b : Blit) (y : ℕ) : Type 0 where
  pub blit : IsBlit b
  pub below : b.y1 ≤ y
