-- What the fields of an arena say, and what holds of them.
use Rattle.std.specs.Prelude.{ℕ, ◌-◌, ◌≤◌, Bool, List, [], ◌∷◌, Option, Some, None, length, count_by, cond}
use Rattle.gv_arena.specs.Contents.{Contents, padded}
use Rattle.gv_arena.specs.declared.arena.Arena.TheInside.{Inside}

-- a page's words, where the page is live
abbrev pub shown_page : Bool → List ℕ → Option (List ℕ)
shown_page live words = cond live (Some words) None

-- the words of the pages that are live
abbrev pub shown : List Bool → List (List ℕ) → List (Option (List ℕ))
shown (mark ∷ marks) (words ∷ pages) = shown_page mark words ∷ shown marks pages
shown _ _ = []

-- how many of the numbers are not live
abbrev pub spare_of : List Bool → ℕ
spare_of marks = length marks - count_by (λ mark. mark) marks

abbrev pub contents : Inside → Contents
contents a = record { pages = padded None (shown a.numbers a.store); spare = spare_of a.numbers }

-- There is a page for each number, and no more of them than the limit.
pub record Holds (a : Inside) : Type 0 where
  pub enough : length a.numbers ≤ length a.store
  pub within : length a.store ≤ 131072
