-- Tables whose nodes go, a level at a time.
use Rattle.std.specs.Prelude.{ℕ, ◌≡◌, None, Some}
use Rattle.gv_shape.specs.Shadow.{Pages}
use Rattle.gv_shape.specs.Counts.{above}

-- the nodes are some of those before, in the same pages
abbrev pub IsWithin : Pages → Pages → Type 0
IsWithin after before = (level frame page : ℕ) → after level frame ≡ Some page → before level frame ≡ Some page

-- No node stands above a level. Above level 4 there is none anyway.
abbrev pub IsTop : Pages → ℕ → Type 0
IsTop pages level = (frame : ℕ) → (level ≡ 4 → ⊥) → pages (above level) frame ≡ None

-- there are no nodes
abbrev pub AreNone : Pages → Type 0
AreNone pages = (level frame : ℕ) → pages level frame ≡ None
