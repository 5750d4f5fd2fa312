-- A writer of report lines.
use Rattle.std.specs.Prelude.{ℕ, List, Option}
use Rattle.gv_lines.specs.Outlet.{Passes, in_sink}

-- Of these bytes a front was written, and the rest is held.
abbrev pub PassesOn : List ℕ → List ℕ → Option (List ℕ) → Option (List ℕ) → Type 0
PassesOn bytes held before after = Passes bytes held (in_sink before) (in_sink after)
