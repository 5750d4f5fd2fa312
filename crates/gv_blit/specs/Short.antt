-- A row that can be read whole without taking memory.
use Rattle.std.specs.Prelude.{◌≤◌}
use Rattle.gv_cmd.specs.declared.blit.RowPair.{RowPair}

abbrev pub IsShort : RowPair → Type 0
IsShort r = r.bytes ≤ 16384
