-- The execlist submit port of an engine.
use Rattle.std.specs.Prelude.{ℕ, ◌+◌, ◌*◌, ◌^◌, List, [], ◌∷◌, ◌++◌, Option, Some, None}
use Rattle.gv_mmio.specs.declared.port.Port.{Port}
use Rattle.gv_mmio.specs.declared.port.Port.TheVariants.{Empty, One, Two, Three}
use Rattle.gv_mmio.specs.declared.port.Submission.{Submission}

-- the dwords of a submission that is half made
abbrev pub writes_of : Port → List ℕ
writes_of Empty = []
writes_of (One a) = a ∷ []
writes_of (Two a b) = a ∷ b ∷ []
writes_of (Three a b c) = a ∷ b ∷ c ∷ []

-- these dwords, filled up with 0 to three, and how many they are
abbrev pub counted_writes : List ℕ → List ℕ × ℕ
counted_writes [] = (0 ∷ 0 ∷ 0 ∷ [], 0)
counted_writes (a ∷ []) = (a ∷ 0 ∷ 0 ∷ [], 1)
counted_writes (a ∷ b ∷ []) = (a ∷ b ∷ 0 ∷ [], 2)
counted_writes (a ∷ b ∷ c ∷ writes) = (a ∷ b ∷ c ∷ [], 3)

-- The fourth dword leaves none.
abbrev pub port_after : List ℕ → ℕ → List ℕ
port_after (a ∷ b ∷ c ∷ []) value = []
port_after writes value = writes ++ value ∷ []

-- The fourth makes the submission: element 1, then element 0, each with its high dword first.
abbrev pub submission_in : List ℕ → ℕ → Option Submission
submission_in (high ∷ low ∷ front_high ∷ []) value = Some (record { first = front_high * 2 ^ 32 + value; second = high * 2 ^ 32 + low })
submission_in writes value = None
