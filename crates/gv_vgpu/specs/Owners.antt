-- The engines that a guest owns, by number.
use Rattle.std.specs.Prelude.{ℕ, List, Bool, false, slice_index_or}

abbrev pub is_here : List Bool → ℕ → Bool
is_here here engine = slice_index_or here engine false
