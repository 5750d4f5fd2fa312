-- How the chains are held: a balanced tree for each frame, and the nodes to spare.
use Rattle.std.specs.Prelude.{ℕ, ◌+◌, ◌^◌, ◌<◌, ◌≤◌, ◌≡◌, length, map, slice_index_or, sum_by, vec_capacity}
use Rattle.gv_rmap.specs.declared.chains.Chains.TheInside.{Inside}
use Rattle.gv_rmap.specs.Leaves.{IsInOrder}
use Rattle.gv_rmap.specs.Chains.{ReverseMap, chain_of}
use Rattle.gv_rmap.specs.declared.tree.Tree.{Empty}
use Rattle.gv_rmap.specs.Tree.{leaves, IsBalanced}

abbrev pub linked_of : Inside → ReverseMap
linked_of s = record { chains = map leaves s.chains.items; spare = length s.spare.items }

-- how many leaves are linked
abbrev pub count_of : ReverseMap → ℕ
count_of s = sum_by length s.chains

pub record IsSound (s : Inside) : Type 0 where
  pub order : (frame : ℕ) → IsInOrder (chain_of (linked_of s) frame)
  pub balanced : (frame : ℕ) → IsBalanced (slice_index_or s.chains.items frame Empty)
  pub frames : length s.chains.items < 2 ^ 32
  pub nodes : count_of (linked_of s) + length s.spare.items ≡ s.nodes
  pub room : s.nodes ≤ vec_capacity s.spare
