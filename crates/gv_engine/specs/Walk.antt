-- What an access of an engine goes through: the tables of its walk, where it has them and they are live,
-- and the entry at last.
use Rattle.std.specs.Prelude.{ℕ, ◌||◌, Bool, true, false, Option, None, Some, if◌then◌else◌}
use Rattle.gv_types.specs.Bits.{has_bit}
use Rattle.gv_gpu.specs.Device.{Device}
use Rattle.gv_gpu.specs.Physical.{live_page, third_table, second_table, first_table, leaf, physical_entry, page_of, page_strays, is_page}
use Rattle.gv_engine.specs.declared.walk.Walk.{Walk}

-- a global address has no tables
abbrev pub walk_of : Device → ℕ → Bool → ℕ → Walk
walk_of d root true at = record { root = None; third = None; second = None; first = None; entry = physical_entry d root true at }
walk_of d root false at = record { root = live_page d root; third = third_table d root at; second = second_table d root at; first = first_table d root at; entry = leaf d root at }

-- the page that is written through an entry
abbrev pub writable_page : Device → ℕ → Option ℕ
writable_page d entry = if has_bit entry 1 then page_of d entry else None

-- whether a table of the walk is another guest's
abbrev pub tables_stray : Device → ℕ → Walk → Bool
tables_stray d owner w = page_strays d owner w.root || page_strays d owner w.third || page_strays d owner w.second || page_strays d owner w.first

-- whether a page is one of the walk's tables
abbrev pub is_table : Walk → ℕ → Bool
is_table w page = is_page w.root page || is_page w.third page || is_page w.second page || is_page w.first page

-- whether the page, if there is one, is one of them
abbrev pub names : Walk → Option ℕ → Bool
names w None = false
names w (Some page) = is_table w page
