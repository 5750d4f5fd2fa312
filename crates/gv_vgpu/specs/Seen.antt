-- What a load sees of a guest's global space.
use Rattle.std.specs.Prelude.{◌≡◌, ℕ, ◌<◌, ◌^◌, ◌&&◌, nat_lt, Bool, true, List}
use Rattle.std.proofs.Common.{arith}
use Rattle.std.proofs.lemmas.Bool.Decides.{nat_tests}
use Rattle.gv_entry.specs.Ranges.{owns_page}
use Rattle.gv_entry.specs.Tables.{is_guarded}
use Rattle.gv_fetch.specs.Fetch.{GlobalSpace}
use Rattle.gv_fetch.specs.Space.{guest_space}
use Rattle.gv_gpu.specs.Device.{Device}
use Rattle.gv_gtt.specs.Gtt.{entries_of, memory_of, ranges_of, roots_in}
use Rattle.gv_gtt.specs.declared.gtt.Gtt.{Gtt}
use Rattle.gv_types.specs.Memory.{Memory}
use Rattle.gv_types.specs.declared.ranges.Ranges.{Ranges}

-- the ranges, the memory, the roots and the entries of a guest
pub record Seen : Type 0 where
  pub ranges : Ranges
  pub memory : Memory
  pub roots : List ℕ
  pub entries : List ℕ

abbrev pub seen_in : Device → Gtt → Seen
seen_in d g = record { ranges = ranges_of g; memory = memory_of d g; roots = roots_in g; entries = entries_of g }

-- The global space by these. The global table has 1,048,576 pages.
abbrev pub space_seen : Seen → GlobalSpace
space_seen s = record {
  owned = λ page. nat_lt page 0x100000 && owns_page s.ranges page;
  word = (guest_space s.ranges s.memory (is_guarded s.memory s.roots) s.entries).word;
}

below-both : (page : ℕ) (owned : Bool) → (nat_lt page 0x100000 && owned) ≡ true → page < 2 ^ 20
below-both page owned is = grind (arith, nat_tests)

-- each of its pages is below that
pub seen-below : (s : Seen) (page : ℕ) → (space_seen s).owned page ≡ true → page < 2 ^ 20
seen-below s page is = below-both page (owns_page s.ranges page) is
