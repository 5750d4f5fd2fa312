-- A chain: the leaves that map one frame.
use Rattle.std.specs.Prelude.{ℕ, ◌+◌, ◌*◌, ◌^◌, ◌<◌, ◌≡◌, Bool, true, not, ◌==◌, nat_lt, if◌then◌else◌, List, [], ◌∷◌, filter, find, All, Contains, Option, None, Some, IfSome}
use Rattle.gv_rmap.specs.declared.leaf.Leaf.{Leaf}

-- The key of a leaf, by which a chain is in order: its page, then its index in it, which has 16 bits.
abbrev pub key : Leaf → ℕ
key leaf = leaf.page * 2 ^ 16 + leaf.index

-- the leaf with a key, if the chain has one
abbrev pub leaf_at : List Leaf → ℕ → Option Leaf
leaf_at chain p = find (λ leaf. key leaf == p) chain

-- the chain with this leaf, which goes before the first one with a later key
abbrev pub with_leaf : Leaf → List Leaf → List Leaf
with_leaf leaf [] = leaf ∷ []
with_leaf leaf (other ∷ others) = if nat_lt (key leaf) (key other) then leaf ∷ other ∷ others else other ∷ with_leaf leaf others

-- the chain without the leaf of this one's key
abbrev pub without_leaf : Leaf → List Leaf → List Leaf
without_leaf leaf chain = filter (λ other. not (key other == key leaf)) chain

-- each leaf stands behind this key
abbrev pub AreBehind : ℕ → List Leaf → Type 0
AreBehind p [] = Unit {0}
AreBehind p (leaf ∷ leaves) = (p < key leaf) × AreBehind p leaves

-- What always holds of a chain: each leaf stands before all that come later. So no key comes twice.
abbrev pub IsInOrder : List Leaf → Type 0
IsInOrder [] = Unit {0}
IsInOrder (leaf ∷ leaves) = AreBehind (key leaf) leaves × IsInOrder leaves

-- whether a leaf stands behind the one that was last, if there was one
abbrev pub is_behind : Option Leaf → Leaf → Bool
is_behind None leaf = true
is_behind (Some last) leaf = nat_lt (key last) (key leaf)

-- What a walk of a chain means: it has each leaf that the chain has at a key, no other, and none twice.
pub record HasEachOnce (chain walk : List Leaf) : Type 0 where
  pub each : (p : ℕ) → IfSome (leaf_at chain p) (Contains walk)
  pub no_other : All (λ leaf. leaf_at chain (key leaf) ≡ Some leaf) walk
  pub once : IsInOrder walk
