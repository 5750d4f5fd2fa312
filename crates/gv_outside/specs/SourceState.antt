-- A source over memory.
use Rattle.std.specs.Prelude.{ℕ, List, min, length, drop, Contains}
use Rattle.gv_outside.specs.Causes.{one_more}

pub record SourceState : Type 0 where
  pub left : List ℕ  -- the bytes that are left
  pub most : ℕ  -- how many bytes a call gives at most
  pub failing : List ℕ  -- the numbers of the calls that fail, counted from 1
  pub calls : ℕ  -- how many calls there were
  pub faults : ℕ  -- how many of them failed

abbrev pub new_source : List ℕ → ℕ → List ℕ → SourceState
new_source bytes most failing = record { left = bytes; most = most; failing = failing; calls = 0; faults = 0 }

-- the next call is one of those that fail
abbrev pub FailsNext : SourceState → Type 0
FailsNext s = Contains s.failing (one_more s.calls)

-- how many bytes a call gives that doesn't fail and has this much room
abbrev pub count_given : SourceState → ℕ → ℕ
count_given s room = min (min room s.most) (length s.left)

abbrev pub after_giving : SourceState → ℕ → SourceState
after_giving s count = record s { left = drop count s.left; calls = one_more s.calls }

abbrev pub after_fault : SourceState → SourceState
after_fault s = record s { calls = one_more s.calls; faults = one_more s.faults }
