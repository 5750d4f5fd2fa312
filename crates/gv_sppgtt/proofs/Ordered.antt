-- Chains stay in order as leaves come and go.
use Rattle.std.proofs.Common.{ℕ, ◌<◌, ◌≡◌, not, eqb, None, length}
use Rattle.gv_rmap.specs.declared.leaf.Leaf.{Leaf}
use Rattle.gv_rmap.specs.Leaves.{leaf_at, key, with_leaf, without_leaf}
use Rattle.gv_rmap.specs.Chains.{ReverseMap, chain_of, linked, unlinked}
use Rattle.gv_rmap.proofs.Order.{order_with, order_filter}
use Rattle.gv_rmap.proofs.Frames.{order-set}
use Rattle.gv_sppgtt.specs.Sound.{AreInOrder}

pub order-linked : (s : ReverseMap) (frame : ℕ) (leaf : Leaf) → frame < length s.chains → leaf_at (chain_of s frame) (key leaf) ≡ None → AreInOrder s → AreInOrder (linked s frame leaf)
order-linked s frame leaf low absent ordered = order-set s.chains frame (with_leaf leaf (chain_of s frame)) low ordered (order_with leaf (chain_of s frame) (ordered frame) absent)

pub order-unlinked : (s : ReverseMap) (frame : ℕ) (leaf : Leaf) → frame < length s.chains → AreInOrder s → AreInOrder (unlinked s frame leaf)
order-unlinked s frame leaf low ordered = order-set s.chains frame (without_leaf leaf (chain_of s frame)) low ordered (order_filter (λ other. not (eqb (key other) (key leaf))) (chain_of s frame) (ordered frame))
