-- Entries, and which of them were written since all were 0.
use Rattle.std.specs.Prelude.{◌≡◌, ℕ, ◌<◌, List, Bool, true, false, length, count_by, slice_index, slice_index_or}

pub record Kept : Type 0 where
  pub values : List ℕ
  pub left : ℕ  -- how many slots were written

-- A slot that isn't written has the entry 0, and the list has each written slot once.
pub record AreWritten (values : List ℕ) (written : List ℕ) (is_written : List Bool) : Type 0 where
  pub each : length is_written ≡ length values
  pub zero : (slot : ℕ) → slice_index_or is_written slot false ≡ false → slice_index values slot ≡ 0
  pub listed : (k : ℕ) → k < length written → slice_index_or is_written (slice_index written k) false ≡ true
  pub once : (j k : ℕ) → j < length written → k < length written → slice_index written j ≡ slice_index written k → j ≡ k
  pub all : count_by (λ w. w) is_written ≡ length written
