-- A sink over memory.
use Rattle.std.specs.Prelude.{ℕ, ◌-◌, ◌<◌, ◌≤◌, ◌⊎◌, List, [], ◌++◌, min, length, Contains}
use Rattle.gv_outside.specs.Causes.{one_more}

pub record SinkState : Type 0 where
  pub held : List ℕ  -- the bytes that it holds
  pub room : ℕ  -- how many it can hold
  pub most : ℕ  -- how many bytes a call appends at most
  pub failing : List ℕ  -- the numbers of the calls that fail, counted from 1
  pub calls : ℕ  -- how many calls there were
  pub faults : ℕ  -- how many of them failed

abbrev pub new_sink : ℕ → ℕ → List ℕ → SinkState
new_sink room most failing = record { held = []; room = room; most = most; failing = failing; calls = 0; faults = 0 }

-- the next call is one of those that fail, or there is no room for the first byte of its piece
abbrev pub FailsNext : SinkState → List ℕ → Type 0
FailsNext s piece = Contains s.failing (one_more s.calls) ⊎ ((s.room ≤ length s.held) × (0 < length piece))

-- how many bytes of a piece a call appends that doesn't fail
abbrev pub count_appended : SinkState → List ℕ → ℕ
count_appended s piece = min (min (length piece) s.most) (s.room - length s.held)

abbrev pub after_appending : SinkState → List ℕ → SinkState
after_appending s bytes = record s { held = s.held ++ bytes; calls = one_more s.calls }

abbrev pub after_fault : SinkState → SinkState
after_fault s = record s { calls = one_more s.calls; faults = one_more s.faults }
