-- The rota of the four engines.
use Rattle.std.specs.Prelude.{ℕ, ◌+◌, ◌%◌, ◌<◌, ◌≤◌, ◌≡◌, Bool, List, ◌++◌, length, take, drop, replicate, slice_index, slice_index_or, slice_set, true, false, position, EachIndex}
use Rattle.std.specs.Option.{option_map_or}

pub record Owners : Type 0 where
  pub guests : ℕ  -- how many guests there are
  pub owners : List ℕ  -- the guest that owns each engine

-- guest 0 owns every engine at first
abbrev pub first_owners : ℕ → Owners
first_owners guests = record { guests = guests; owners = replicate 4 0 }

abbrev pub owner_of : Owners → ℕ → ℕ
owner_of s engine = slice_index s.owners engine

-- whether the other guests have work, in cyclic order from the one after the owner on
abbrev pub work_of_others : List Bool → ℕ → List Bool
work_of_others has_work owner = drop (owner + 1) has_work ++ take owner has_work

-- The first of them that has work; where none has, the owner stays.
abbrev pub next_owner : List Bool → ℕ → ℕ
next_owner has_work owner =
    option_map_or (λ between. (owner + 1 + between) % length has_work) (position (λ work. work) (work_of_others has_work owner)) owner

-- the guest so many places behind the owner, in cyclic order, and whether a guest has work
abbrev pub guest_behind : ℕ → ℕ → ℕ → ℕ
guest_behind guests owner places = (owner + places) % guests

abbrev pub works : List Bool → ℕ → Bool
works has_work guest = slice_index_or has_work guest false

-- What that means, going round once from the owner: no guest with work is passed over, and the next
-- owner has work, unless it is the owner again.
pub record IsNextOwner (has_work : List Bool) (owner next : ℕ) : Type 0 where
  pub places : ℕ
  pub behind : 1 ≤ places
  pub once : places ≤ length has_work
  pub stands : next ≡ guest_behind (length has_work) owner places
  pub passed : (k : ℕ) → 1 ≤ k → k < places → works has_work (guest_behind (length has_work) owner k) ≡ false
  pub has : places < length has_work → works has_work next ≡ true

abbrev pub switched : Owners → ℕ → List Bool → Owners
switched s engine has_work = record s { owners = slice_set s.owners engine (next_owner has_work (owner_of s engine)) }

-- what always holds: there are one to eight guests, and each owner is one of them
pub record AreOwners (s : Owners) : Type 0 where
  pub some : 1 ≤ s.guests
  pub few : s.guests ≤ 8
  pub four : length s.owners ≡ 4
  pub there : EachIndex s.owners (λ engine. owner_of s engine < s.guests)
