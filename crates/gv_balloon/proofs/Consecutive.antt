-- What is given out next is apart from all that was given out.
use Rattle.std.proofs.Common.{◌≡◌, ℕ, ◌+◌, ◌<◌, ◌≤◌, ◌++◌, ◌∷◌, [], List, true, All, AllPairs, length, get_or, drop, ap, sym, ◌∙◌, arith}
use Rattle.std.specs.List.{sum_by}
use Rattle.std.proofs.lemmas.Bool.Decides.{nat_tests}
use Rattle.std.proofs.lemmas.List.{at_drop_more, append_assoc}
use Rattle.std.proofs.lemmas.List.Elements.{All-push}
use Rattle.std.proofs.lemmas.List.Quantifiers.{all_pairs_push}
use Rattle.std.proofs.lemmas.List.Sums.{sum_by-drop_more}
use Rattle.gv_types.specs.declared.ranges.Want.{Want}
use Rattle.gv_types.specs.declared.ranges.Ranges.{Ranges}
use Rattle.gv_balloon.specs.declared.given.Given.{Given}
use Rattle.gv_balloon.specs.Shares.{fits, next_ranges, given_after, ranges_from, AreApart, AreAmong}

module _ (given : Given) (want : Want) (ranges : Ranges) (among : AreAmong given ranges) where
  pub among-apart : fits given want ≡ true → AreApart ranges (next_ranges given want)
  among-apart fit page own = grind (arith, nat_tests)

  pub apart-among : fits given want ≡ true → AreApart (next_ranges given want) ranges
  apart-among fit page own = grind (arith, nat_tests)

  pub among-after : AreAmong (given_after given want) ranges
  among-after = record {
    low = let h = among.low in omega arith;
    from = among.from;
    high = let h = among.high in omega arith;
  }

pub fits-low : (given : Given) (want : Want) → fits given want ≡ true → given.low + want.low ≤ 65536
fits-low given want fit = grind (arith, nat_tests)

pub fits-high : (given : Given) (want : Want) → fits given want ≡ true → given.high + want.high ≤ 966656
fits-high given want fit = grind (arith, nat_tests)

-- One more guest's ranges behind those of the guests before it.
module _ (given : Given) (want : Want) (shares : List Ranges) where
  pub among-all : All (AreAmong given) shares → AreAmong (given_after given want) (next_ranges given want) → All (AreAmong (given_after given want)) (shares ++ next_ranges given want ∷ [])
  among-all all next = All-push (AreAmong (given_after given want)) shares (next_ranges given want) (λ k d h. among-after given want (get_or shares k d) (all k d h)) next

  pub apart-all : fits given want ≡ true → All (AreAmong given) shares → AllPairs AreApart shares → AllPairs AreApart (shares ++ next_ranges given want ∷ [])
  apart-all fit all pairs = all_pairs_push AreApart shares (next_ranges given want) pairs (λ k d h. among-apart given want (get_or shares k d) (all k d h) fit)

  pub ranges-next : (wants : List Want) (i : ℕ) (d : Want) → i < length wants → want ≡ get_or wants i d → (shares ++ next_ranges given want ∷ []) ++ ranges_from (given_after given want) (drop (i + 1) wants) ≡ shares ++ ranges_from given (drop i wants)
  ranges-next wants i d h is =
      append_assoc shares (next_ranges given want ∷ []) (ranges_from (given_after given want) (drop (i + 1) wants))
      ∙ ap (λ w. shares ++ ranges_from given (w ∷ drop (i + 1) wants)) is
      ∙ ap (λ rest. shares ++ rest) (sym (at_drop_more (ranges_from given) wants i d h))

-- what was given out and what is left to give out are all that is wanted
pub sum-next : (pages : Want → ℕ) (wants : List Want) (i : ℕ) (d : Want) (given all : ℕ) → i < length wants → given + sum_by pages (drop i wants) ≡ all → given + pages (get_or wants i d) + sum_by pages (drop (i + 1) wants) ≡ all
sum-next pages wants i d given all h kept = let left = sum_by-drop_more pages wants i d h in omega arith
