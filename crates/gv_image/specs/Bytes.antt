-- Numbers as bytes, the lowest byte first, and lists of them.
use Rattle.std.specs.Prelude.{ℕ, ◌∷◌, List, length, Bool, if◌then◌else◌}
use Rattle.std.specs.Int.{w32, w64, to_le_bytes}
use Rattle.std.specs.List.{flat_map}

unfoldable pub dwords : List ℕ → List ℕ
dwords ns = flat_map (to_le_bytes w32) ns

unfoldable pub quadwords : List ℕ → List ℕ
quadwords ns = flat_map (to_le_bytes w64) ns

-- a list: how many dwords, and these
abbrev pub list : List ℕ → List ℕ
list ns = dwords (length ns ∷ ns)

abbrev pub flag : Bool → ℕ
flag b = if b then 1 else 0
