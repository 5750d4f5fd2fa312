-- The roles of a guest's frames: for each frame, whether it is a live table at level 1, 2, 3 and 4.
use Rattle.std.specs.Prelude.{ℕ, ◌+◌, ◌*◌, ◌-◌, ◌≤◌, ◌≡◌, ◌≢◌, List, [], ◌∷◌, Bool, false, ◌==◌, if◌then◌else◌, replicate, slice_index_or, slice_set}
use Rattle.std.specs.Int.{bit_at}

abbrev pub Roles : Type 0
Roles = List (List Bool)

abbrev pub no_roles : ℕ → Roles
no_roles frames = replicate frames (replicate 4 false)

abbrev pub levels_of : Roles → ℕ → List Bool
levels_of roles frame = slice_index_or roles frame []

abbrev pub has_role : Roles → ℕ → ℕ → Bool
has_role roles frame level = slice_index_or (levels_of roles frame) (level - 1) false

abbrev pub HasNoRole : Roles → ℕ → Type 0
HasNoRole roles frame = (level : ℕ) → has_role roles frame level ≡ false

-- the same roles, but for this one
abbrev pub with_role : Roles → ℕ → ℕ → Bool → Roles
with_role roles frame level live = slice_set roles frame (slice_set (levels_of roles frame) (level - 1) live)

-- what that means: the frame has the role or hasn't, and each other role is as it was
pub record ChangesRole (old new : Roles) (frame level : ℕ) (live : Bool) : Type 0 where
  pub role : has_role new frame level ≡ live
  pub other_levels : (k : ℕ) → 1 ≤ k → k ≢ level → has_role new frame k ≡ has_role old frame k
  pub other_frames : (f : ℕ) → f ≢ frame → levels_of new f ≡ levels_of old f

-- as bits of a number, the lowest level first
abbrev pub bits_of : List Bool → ℕ
bits_of [] = 0
bits_of (live ∷ levels) = (if live then 1 else 0) + 2 * bits_of levels

-- the levels whose bits a number has
abbrev pub levels_in : ℕ → List Bool
levels_in bits = (bit_at bits 0 == 1) ∷ (bit_at bits 1 == 1) ∷ (bit_at bits 2 == 1) ∷ (bit_at bits 3 == 1) ∷ []
