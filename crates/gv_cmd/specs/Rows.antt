-- The rows of a blit.
use Rattle.std.specs.Prelude.{ℕ, ◌+◌, ◌-◌, ◌*◌, ◌%◌, ◌^◌, nat_lt, List, [], map, if◌then◌else◌}
use Rattle.std.specs.List.{range_with_len}
use Rattle.gv_cmd.specs.declared.blit.Blit.{Blit}
use Rattle.gv_cmd.specs.declared.blit.RowPair.{RowPair}

-- the row with this y: where it begins in the destination and in the source, and its bytes
abbrev pub row : Blit → ℕ → RowPair
row b y = record {
  to = (b.to + y * b.to_pitch + b.x1 * b.bytes) % 2 ^ 48;
  from = (b.from + (b.from_y + y - b.y1) * b.from_pitch + b.from_x * b.bytes) % 2 ^ 48;
  bytes = (b.x2 - b.x1) * b.bytes;
}

-- from the top down; none where there is no x from x1 to below x2, or no y from y1 to below y2
abbrev pub rows : Blit → List RowPair
rows b = if nat_lt b.x1 b.x2 then map (row b) (range_with_len b.y1 (b.y2 - b.y1)) else []
