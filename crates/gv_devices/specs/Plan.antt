-- Which calls of a failing device fail.
use Rattle.std.specs.Prelude.{ℕ, ◌≡◌, ◌+◌, List, Bool, true, Contains, if◌then◌else◌}
use Rattle.gv_gpu.specs.Device.{counted}

pub record Plan : Type 0 where
  pub failing : List ℕ  -- the numbers of the calls that fail, counted from 1
  pub counts_all : Bool  -- whether calls of `submit` and `stop` are counted beside those of `step`
  pub calls : ℕ  -- how many calls were counted

-- before any call
abbrev pub new_plan : List ℕ → Bool → Plan
new_plan failing counts_all = record { failing = failing; counts_all = counts_all; calls = 0 }

-- the next call that is counted is one of those that fail
abbrev pub FailsNext : Plan → Type 0
FailsNext p = Contains p.failing (p.calls + 1)

-- a call was counted
abbrev pub after_call : Plan → Plan
after_call p = record p { calls = counted p.calls }

-- the same for a call of `submit` or `stop`, which counts only where all do
abbrev pub FailsNextOther : Plan → Type 0
FailsNextOther p = (p.counts_all ≡ true) × FailsNext p

abbrev pub after_other_call : Plan → Plan
after_other_call p = if p.counts_all then after_call p else p
