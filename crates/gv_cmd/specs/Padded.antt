-- The dwords of a command in a row of 65, with zeros after them.
use Rattle.std.specs.Prelude.{ℕ, ◌-◌, ◌++◌, List, length, replicate}

unfoldable pub padded : List ℕ → List ℕ
padded ws = ws ++ replicate (65 - length ws) 0
