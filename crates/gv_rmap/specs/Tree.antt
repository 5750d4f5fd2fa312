-- The leaves that a tree holds, from left to right, and how high it is.
use Rattle.std.specs.Prelude.{ℕ, ◌+◌, ◌/◌, ◌^◌, ◌<◌, ◌≤◌, ◌≡◌, max, min, length, List, [], ◌∷◌, ◌++◌}
use Rattle.gv_rmap.specs.declared.leaf.Leaf.{Leaf}
use Rattle.gv_rmap.specs.declared.tree.Tree.{Tree, Empty, Fork'}
use Rattle.gv_rmap.specs.declared.tree.Node.{Node}

abbrev pub leaves : Tree → List Leaf
leaves Empty = []
leaves (Fork' p left leaf right height) = leaves left ++ leaf ∷ leaves right

abbrev pub leaves_of : Node → List Leaf
leaves_of node = leaves node.left ++ node.leaf ∷ leaves node.right

-- a node with no sides
abbrev pub lone_node : Leaf → Node
lone_node leaf = record { left = Empty; leaf = leaf; right = Empty; height = 1 }

-- Each node keeps its height.
abbrev pub height : Tree → ℕ
height Empty = 0
height (Fork' p left leaf right h) = h

-- the height over two sides, in the eight bits that a node has for it
abbrev pub height_over : Tree → Tree → ℕ
height_over left right = min 255 (max (height left) (height right) + 1)

-- two heights that differ by one at the most
abbrev pub AreEven : ℕ → ℕ → Type 0
AreEven a b = (a ≤ b + 1) × (b ≤ a + 1)

-- Everywhere the sides' heights differ by one at the most, and the height is one more than the higher side's.
abbrev pub IsBalanced : Tree → Type 0
IsBalanced Empty = Unit {0}
IsBalanced (Fork' p left leaf right h) = (h ≡ max (height left) (height right) + 1) × (AreEven (height left) (height right) × (IsBalanced left × IsBalanced right))

-- A node that may have one side higher by two. The heights of the trees that there can be have eight bits with ease.
pub record IsNearlyBalanced (node : Node) : Type 0 where
  pub left : IsBalanced node.left
  pub right : IsBalanced node.right
  pub left_high : height node.left ≤ height node.right + 2
  pub right_high : height node.right ≤ height node.left + 2
  pub left_small : height node.left < 250
  pub right_small : height node.right < 250

abbrev pub IsBalancedNode : Node → Type 0
IsBalancedNode node = (node.height ≡ max (height node.left) (height node.right) + 1) × (AreEven (height node.left) (height node.right) × (IsBalanced node.left × IsBalanced node.right))

-- a tree with these sides
abbrev pub IsOver : Tree → Tree → Tree → Type 0
IsOver left right Empty = ⊥
IsOver left right (Fork' p l leaf r h) = (l ≡ left) × ((r ≡ right) × (h ≡ height_over left right))

-- The root of the left side came to the top: its left side is the left one now, and what it had on its right stands
-- over the old root's right side. Or there is no left side.
abbrev pub TurnsRight : Tree → Node → Node → Type 0
TurnsRight Empty old new = new ≡ old
TurnsRight (Fork' p l leaf r h) old new = (new.left ≡ l) × (IsOver r old.right new.right × (new.height ≡ height_over new.left new.right))

abbrev pub TurnsLeft : Tree → Node → Node → Type 0
TurnsLeft Empty old new = new ≡ old
TurnsLeft (Fork' p l leaf r h) old new = (new.right ≡ r) × (IsOver old.left l new.left × (new.height ≡ height_over new.left new.right))

-- what balancing gives: the height is at most one more than the higher side's, and is that where they differed little
pub record Balances (old new : Node) : Type 0 where
  pub balanced : IsBalancedNode new
  pub low : max (height old.left) (height old.right) ≤ new.height
  pub high : new.height ≤ max (height old.left) (height old.right) + 1
  pub even : AreEven (height old.left) (height old.right) → new.height ≡ max (height old.left) (height old.right) + 1

-- A tree that was of this height and balanced has a left side that is as high as the right one or higher.
pub record LeansLeft (h : ℕ) (left right : Tree) : Type 0 where
  pub left_balanced : IsBalanced left
  pub right_balanced : IsBalanced right
  pub left_high : height left + 1 ≡ h
  pub right_high : height right + 1 ≤ h
  pub right_low : h ≤ height right + 3

abbrev pub IsLeaningLeft : ℕ → Tree → Type 0
IsLeaningLeft h Empty = h ≡ 0
IsLeaningLeft h (Fork' p left leaf right height) = LeansLeft h left right

abbrev pub IsLeaningRight : ℕ → Tree → Type 0
IsLeaningRight h Empty = h ≡ 0
IsLeaningRight h (Fork' p left leaf right height) = LeansLeft h right left

-- A leaf more makes a balanced tree higher by one at the most, and a leaf less lower by one.
pub record Grows (old new : Tree) : Type 0 where
  pub balanced : IsBalanced new
  pub low : height old ≤ height new
  pub high : height new ≤ height old + 1

pub record Shrinks (old new : Tree) : Type 0 where
  pub balanced : IsBalanced new
  pub low : height old ≤ height new + 1
  pub high : height new ≤ height old

-- two trees one after the other
pub record Joins (left right joined : Tree) : Type 0 where
  pub balanced : IsBalanced joined
  pub low : max (height left) (height right) ≤ height joined
  pub high : height joined ≤ max (height left) (height right) + 1

-- A balanced tree's height is at most twice the binary logarithm of one more than its leaves, and one.
abbrev pub HeightIsLogarithmic : Type 0
HeightIsLogarithmic = (tree : Tree) → IsBalanced tree → 2 ^ (height tree / 2) ≤ length (leaves tree) + 1
