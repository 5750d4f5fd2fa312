-- Ballooning: each guest in turn is given the next pages of the low part and of the high part.
use Rattle.std.specs.Prelude.{◌≡◌, ℕ, ◌+◌, ◌≤◌, List, [], ◌∷◌, Bool, true, false, ◌&&◌, nat_le}
use Rattle.std.specs.List.{sum_by}
use Rattle.gv_types.specs.declared.ranges.Want.{Want}
use Rattle.gv_types.specs.declared.ranges.Ranges.{Ranges}
use Rattle.gv_entry.specs.Ranges.{owns_page, end_of}
use Rattle.gv_balloon.specs.declared.given.Given.{Given}

-- how many pages of each part have been given out
abbrev pub nothing_given : Given
nothing_given = record { low = 0; high = 0 }

abbrev pub given_after : Given → Want → Given
given_after given want = record { low = given.low + want.low; high = given.high + want.high }

-- the low part has 65,536 pages, the high part 966,656
abbrev pub fits : Given → Want → Bool
fits given want = nat_le (given.low + want.low) 65536 && nat_le (given.high + want.high) 966656

abbrev pub next_ranges : Given → Want → Ranges
next_ranges given want = record {
  low = record { first = given.low; pages = want.low };
  high = record { first = 0x10000 + given.high; pages = want.high };
}

-- the ranges of all, in order
abbrev pub ranges_from : Given → List Want → List Ranges
ranges_from given [] = []
ranges_from given (want ∷ wants) = next_ranges given want ∷ ranges_from (given_after given want) wants

abbrev pub all_fit : List Want → Bool
all_fit wants = nat_le (sum_by (λ (want : Want). want.low) wants) 65536 && nat_le (sum_by (λ (want : Want). want.high) wants) 966656

-- no page is in both
abbrev pub AreApart : Ranges → Ranges → Type 0
AreApart r s = (page : ℕ) → owns_page r page ≡ true → owns_page s page ≡ false

-- Ranges that were given out among these pages: each ends where they end, or before.
pub record AreAmong (given : Given) (ranges : Ranges) : Type 0 where
  pub low : end_of ranges.low ≤ given.low
  pub from : 0x10000 ≤ ranges.high.first
  pub high : end_of ranges.high ≤ 0x10000 + given.high
