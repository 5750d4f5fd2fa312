-- How many nodes there can be: four for each frame, and two for each large page.
use Rattle.std.proofs.Common.{ℕ, zero, suc, ◌+◌, ◌*◌, ◌/◌, ◌≤◌, ◌<◌, ◌≡◌, Option, None, Some, is_some, length, refl, arith, ⊎_elim}
use Rattle.std.proofs.lemmas.Bool.{cases_lt}
use Rattle.gv_shape.specs.Shadow.{Pages}
use Rattle.gv_shape.specs.Counts.{total, one_if}
use Rattle.gv_shape.proofs.Totals.{total-bound}
use Rattle.gv_sppgtt.specs.Grown.{nodes_of, splits_of}
use Rattle.gv_sppgtt.specs.State.{pages_of}
use Rattle.gv_sppgtt.specs.Laws.{TablesAreFew}
use Rattle.gv_sppgtt.proofs.Room.{four_most, two_most}

-- a sum of terms up to 2, the first m alone above 0
total-first : (n m : ℕ) (f : ℕ → ℕ) → ((j : ℕ) → f j ≤ 2) → ((j : ℕ) → m ≤ j → f j ≡ 0) → total n f ≤ 2 * m
unfolding total
total-first zero m f most none = omega arith
total-first (suc n) m f most none = ⊎_elim
    (λ low. let a = total-bound n 2 f most in let b = most n in omega arith)
    (λ high. let a = total-first n m f most none in let b = none n high in omega arith)
    (cases_lt n m)

-- a large page that isn't whole in memory has no split table
module _ (frames : ℕ) (pages : Pages) (whole : (k f p : ℕ) → pages k f ≡ Some p → 5 ≤ k → f + 511 < frames) where
  no_split : (k j : ℕ) → 5 ≤ k → frames / 512 ≤ j → one_if (is_some (pages k (j * 512))) ≡ 0
  no_split k j five past = by (pages k (j * 512)) refl
    where
      by : (o : Option ℕ) → pages k (j * 512) ≡ o → one_if (is_some o) ≡ 0
      by None is = refl
      by (Some p) is = let w = whole k (j * 512) p is five in absurd (omega arith)

  splits-few : total 32 (splits_of pages) ≤ 2 * (frames / 512)
  splits-few = total-first 32 (frames / 512) (splits_of pages) (two_most pages) (λ j past. let a = no_split 5 j (omega arith) past in let b = no_split 6 j (omega arith) past in omega arith)

pub tables_are_few : TablesAreFew
tables_are_few d placed pins t h =
    let tables = total-bound (length placed.pages) 4 (nodes_of (pages_of t)) (four_most (pages_of t)) in
    let splits = splits-few (length placed.pages) (pages_of t) (λ k f p is five. (h.sound.boarded.whole k f p is five).1) in
    omega arith
