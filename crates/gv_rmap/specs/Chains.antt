-- The chains of all frames.
use Rattle.std.specs.Prelude.{ℕ, ◌+◌, ◌-◌, ◌≡◌, ◌≢◌, max, List, [], replicate, slice_index_or, slice_set, Option}
use Rattle.gv_rmap.specs.declared.leaf.Leaf.{Leaf}
use Rattle.gv_rmap.specs.Leaves.{leaf_at, with_leaf, without_leaf}

pub record ReverseMap : Type 0 where
  pub chains : List (List Leaf)  -- the chain of each frame
  pub spare : ℕ  -- how many leaves can be linked without memory

-- at first
abbrev pub no_leaves : ℕ → ReverseMap
no_leaves frames = record { chains = replicate frames []; spare = 0 }

abbrev pub chain_of : ReverseMap → ℕ → List Leaf
chain_of s frame = slice_index_or s.chains frame []

-- at least n leaves can be linked without memory
abbrev pub reserved : ReverseMap → ℕ → ReverseMap
reserved s n = record s { spare = max s.spare n }

-- a leaf comes into a frame's chain, and takes one of what is to spare
abbrev pub linked : ReverseMap → ℕ → Leaf → ReverseMap
linked s frame leaf = record { chains = slice_set s.chains frame (with_leaf leaf (chain_of s frame)); spare = s.spare - 1 }

-- a leaf leaves a frame's chain, and gives one back
abbrev pub unlinked : ReverseMap → ℕ → Leaf → ReverseMap
unlinked s frame leaf = record { chains = slice_set s.chains frame (without_leaf leaf (chain_of s frame)); spare = s.spare + 1 }

-- What that means: the frame's chain has this at the key, or nothing there, and at every other key,
-- and of every other frame, what it had.
pub record ChangesLeaf (old new : ReverseMap) (frame p : ℕ) (leaf : Option Leaf) : Type 0 where
  pub here : leaf_at (chain_of new frame) p ≡ leaf
  pub other_places : (q : ℕ) → q ≢ p → leaf_at (chain_of new frame) q ≡ leaf_at (chain_of old frame) q
  pub other_frames : (f : ℕ) → f ≢ frame → chain_of new f ≡ chain_of old f
