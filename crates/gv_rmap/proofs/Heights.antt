-- Turns, and what they do to heights.
use Rattle.std.proofs.Common.{◌≡◌, ℕ, ◌+◌, ◌*◌, ◌/◌, ◌^◌, ◌<◌, ◌≤◌, max, min, length, length-append, [], ◌∷◌, ◌++◌, ap, sym, subst, arith, refl, inl, inr}
use Rattle.std.proofs.lemmas.Bool.{cases_lt}
use Rattle.std.proofs.lemmas.Grind.{pow_more}
use Rattle.std.proofs.Math.Nat.{pow-le-pow_right}
use Rattle.gv_rmap.specs.declared.leaf.Leaf.{Leaf}
use Rattle.gv_rmap.specs.declared.tree.Tree.{Tree, Empty, Fork'}
use Rattle.gv_rmap.specs.declared.tree.Node.{Node}
use Rattle.gv_rmap.specs.Tree.{leaves, lone_node, height, height_over, AreEven, IsBalanced, IsBalancedNode, IsNearlyBalanced, IsOver, TurnsRight, TurnsLeft, Balances, LeansLeft, IsLeaningLeft, IsLeaningRight, Grows, Shrinks, Joins}

-- a tree over two sides
over-height : (l r t : Tree) → IsOver l r t → height t ≡ height_over l r
over-height l r Empty is = absurd is
over-height l r (Fork' p l2 leaf r2 h) is = is.1.1

over-balanced : (l r t : Tree) → IsOver l r t → IsBalanced l → IsBalanced r → AreEven (height l) (height r) → height l < 254 → height r < 254 → IsBalanced t
over-balanced l r Empty is bl br even sl sr = absurd is
over-balanced l r (Fork' p l2 leaf r2 h) is bl br even sl sr =
    let el : l2 ≡ l = is.0 in
    let er : r2 ≡ r = is.1.0 in
    let eh : h ≡ min 255 (max (height l) (height r) + 1) = is.1.1 in
    let high : h ≡ max (height l) (height r) + 1 = omega arith in
    rw (el, er) (high, (even, (bl, br)))

-- The root of the left side comes to the top where that side is higher by two and leans to the left.
turn-right : (side : Tree) (old new : Node) → TurnsRight side old new → IsLeaningLeft (height old.right + 2) side → IsBalanced old.right → height old.right < 250
    → IsBalancedNode new × ((height old.right + 2 ≤ new.height) × (new.height ≤ height old.right + 3))
turn-right Empty old new turned leaning balanced small = absurd (let e : height old.right + 2 ≡ 0 = leaning in omega arith)
turn-right (Fork' p l leaf r h) old new turned leaning balanced small =
    let k = height old.right in
    let left : new.left ≡ l = turned.0 in
    let over : IsOver r old.right new.right = turned.1.0 in
    let lh : height l + 1 ≡ k + 2 = leaning.left_high in
    let rh : height r + 1 ≤ k + 2 = leaning.right_high in
    let rl : k + 2 ≤ height r + 3 = leaning.right_low in
    let right : height new.right ≡ min 255 (max (height r) k + 1) = over-height r old.right new.right over in
    let high : height new.left ≡ height l = ap height left in
    let own : new.height ≡ min 255 (max (height new.left) (height new.right) + 1) = turned.1.1 in
    let side : IsBalanced new.right = over-balanced r old.right new.right over leaning.right_balanced balanced (omega arith, omega arith) (omega arith) (omega arith) in
    ((omega arith, ((omega arith, omega arith), (subst IsBalanced (sym left) leaning.left_balanced, side))), (omega arith, omega arith))

turn-left : (side : Tree) (old new : Node) → TurnsLeft side old new → IsLeaningRight (height old.left + 2) side → IsBalanced old.left → height old.left < 250
    → IsBalancedNode new × ((height old.left + 2 ≤ new.height) × (new.height ≤ height old.left + 3))
turn-left Empty old new turned leaning balanced small = absurd (let e : height old.left + 2 ≡ 0 = leaning in omega arith)
turn-left (Fork' p l leaf r h) old new turned leaning balanced small =
    let k = height old.left in
    let right : new.right ≡ r = turned.0 in
    let over : IsOver old.left l new.left = turned.1.0 in
    let rh : height r + 1 ≡ k + 2 = leaning.left_high in
    let lh : height l + 1 ≤ k + 2 = leaning.right_high in
    let ll : k + 2 ≤ height l + 3 = leaning.right_low in
    let left : height new.left ≡ min 255 (max k (height l) + 1) = over-height old.left l new.left over in
    let high : height new.right ≡ height r = ap height right in
    let own : new.height ≡ min 255 (max (height new.left) (height new.right) + 1) = turned.1.1 in
    let side : IsBalanced new.left = over-balanced old.left l new.left over balanced leaning.right_balanced (omega arith, omega arith) (omega arith) (omega arith) in
    ((omega arith, ((omega arith, omega arith), (side, subst IsBalanced (sym right) leaning.left_balanced))), (omega arith, omega arith))

-- A balanced tree that doesn't lean to its right, and one that was turned since it did.
pub leans-kept : (root : Node) → IsBalancedNode root → height root.right ≤ height root.left → LeansLeft root.height root.left root.right
leans-kept root balanced le =
    let own : root.height ≡ max (height root.left) (height root.right) + 1 = balanced.0 in
    let even : height root.left ≤ height root.right + 1 = balanced.1.0.0 in
    record { left_balanced = balanced.1.1.0; right_balanced = balanced.1.1.1; left_high = omega arith; right_high = omega arith; right_low = omega arith }

pub leans-kept-right : (root : Node) → IsBalancedNode root → height root.left ≤ height root.right → LeansLeft root.height root.right root.left
leans-kept-right root balanced le =
    let own : root.height ≡ max (height root.left) (height root.right) + 1 = balanced.0 in
    let even : height root.right ≤ height root.left + 1 = balanced.1.0.1 in
    record { left_balanced = balanced.1.1.1; right_balanced = balanced.1.1.0; left_high = omega arith; right_high = omega arith; right_low = omega arith }

leans-turned-by : (side : Tree) (root new : Node) → TurnsLeft side root new → IsBalanced side → height side ≡ height root.left + 1 → IsBalanced root.left → height root.left < 250
    → LeansLeft (height root.left + 2) new.left new.right
leans-turned-by Empty root new turned balanced high left small = absurd (let e : 0 ≡ height root.left + 1 = high in omega arith)
leans-turned-by (Fork' p l leaf r h) root new turned balanced high left small =
    let own : h ≡ max (height l) (height r) + 1 = balanced.0 in
    let even : height l ≤ height r + 1 = balanced.1.0.0 in
    let even2 : height r ≤ height l + 1 = balanced.1.0.1 in
    let high2 : h ≡ height root.left + 1 = high in
    let over : IsOver root.left l new.left = turned.1.0 in
    let is : height new.left ≡ min 255 (max (height root.left) (height l) + 1) = over-height root.left l new.left over in
    let right : height new.right ≡ height r = ap height turned.0 in
    record {
      left_balanced = over-balanced root.left l new.left over left balanced.1.1.0 (omega arith, omega arith) (omega arith) (omega arith);
      right_balanced = subst IsBalanced (sym turned.0) balanced.1.1.1;
      left_high = omega arith;
      right_high = omega arith;
      right_low = omega arith;
    }

pub leans-turned : (root new : Node) → IsBalancedNode root → height root.left < height root.right → root.height < 250 → TurnsLeft root.right root new → LeansLeft root.height new.left new.right
leans-turned root new balanced lt small turned =
    let own : root.height ≡ max (height root.left) (height root.right) + 1 = balanced.0 in
    let even : height root.right ≤ height root.left + 1 = balanced.1.0.1 in
    let k : root.height ≡ height root.left + 2 = omega arith in
    subst (λ h. LeansLeft h new.left new.right) (sym k) (leans-turned-by root.right root new turned balanced.1.1.1 (omega arith) balanced.1.1.0 (omega arith))

leans-turned-right-by : (side : Tree) (root new : Node) → TurnsRight side root new → IsBalanced side → height side ≡ height root.right + 1 → IsBalanced root.right → height root.right < 250
    → LeansLeft (height root.right + 2) new.right new.left
leans-turned-right-by Empty root new turned balanced high right small = absurd (let e : 0 ≡ height root.right + 1 = high in omega arith)
leans-turned-right-by (Fork' p l leaf r h) root new turned balanced high right small =
    let own : h ≡ max (height l) (height r) + 1 = balanced.0 in
    let even : height l ≤ height r + 1 = balanced.1.0.0 in
    let even2 : height r ≤ height l + 1 = balanced.1.0.1 in
    let high2 : h ≡ height root.right + 1 = high in
    let over : IsOver r root.right new.right = turned.1.0 in
    let is : height new.right ≡ min 255 (max (height r) (height root.right) + 1) = over-height r root.right new.right over in
    let left : height new.left ≡ height l = ap height turned.0 in
    record {
      left_balanced = over-balanced r root.right new.right over balanced.1.1.1 right (omega arith, omega arith) (omega arith) (omega arith);
      right_balanced = subst IsBalanced (sym turned.0) balanced.1.1.0;
      left_high = omega arith;
      right_high = omega arith;
      right_low = omega arith;
    }

pub leans-turned-right : (root new : Node) → IsBalancedNode root → height root.right < height root.left → root.height < 250 → TurnsRight root.left root new → LeansLeft root.height new.right new.left
leans-turned-right root new balanced lt small turned =
    let own : root.height ≡ max (height root.left) (height root.right) + 1 = balanced.0 in
    let even : height root.left ≤ height root.right + 1 = balanced.1.0.0 in
    let k : root.height ≡ height root.right + 2 = omega arith in
    subst (λ h. LeansLeft h new.right new.left) (sym k) (leans-turned-right-by root.left root new turned balanced.1.1.0 (omega arith) balanced.1.1.1 (omega arith))

-- A node that is higher on one side by two, turned.
pub balances-right : (old mid new : Node) (side : Tree) → TurnsRight side mid new → mid.right ≡ old.right → (IsBalanced old.left → height old.left < 250 → IsLeaningLeft (height old.left) side)
    → height old.right + 1 < height old.left → IsNearlyBalanced old → Balances old new
balances-right old mid new side turned right leaning high near =
    let most : height old.left ≤ height old.right + 2 = near.left_high in
    let small : height old.right < 250 = near.right_small in
    let same : height mid.right ≡ height old.right = ap height right in
    let k : height old.left ≡ height mid.right + 2 = omega arith in
    let leans = subst (λ h. IsLeaningLeft h side) k (leaning near.left near.left_small) in
    let done = turn-right side mid new turned leans (subst IsBalanced (sym right) near.right) (omega arith) in
    let low : height mid.right + 2 ≤ new.height = done.1.0 in
    let top : new.height ≤ height mid.right + 3 = done.1.1 in
    record { balanced = done.0; low = omega arith; high = omega arith; even = λ even. absurd (let e : height old.left ≤ height old.right + 1 = even.0 in omega arith) }

pub balances-left : (old mid new : Node) (side : Tree) → TurnsLeft side mid new → mid.left ≡ old.left → (IsBalanced old.right → height old.right < 250 → IsLeaningRight (height old.right) side)
    → height old.left + 1 < height old.right → IsNearlyBalanced old → Balances old new
balances-left old mid new side turned left leaning high near =
    let most : height old.right ≤ height old.left + 2 = near.right_high in
    let small : height old.left < 250 = near.left_small in
    let same : height mid.left ≡ height old.left = ap height left in
    let k : height old.right ≡ height mid.left + 2 = omega arith in
    let leans = subst (λ h. IsLeaningRight h side) k (leaning near.right near.right_small) in
    let done = turn-left side mid new turned leans (subst IsBalanced (sym left) near.left) (omega arith) in
    let low : height mid.left + 2 ≤ new.height = done.1.0 in
    let top : new.height ≤ height mid.left + 3 = done.1.1 in
    record { balanced = done.0; low = omega arith; high = omega arith; even = λ even. absurd (let e : height old.right ≤ height old.left + 1 = even.1 in omega arith) }

-- ---- a leaf more, a leaf less

-- the tree over a node, with the node's sides
parts : (all : Tree) (node : Node) → IsBalancedNode node → height all ≡ node.height → height all < 200 → (height node.left < 200) × (height node.right < 200)
parts all node balanced same small =
    let own : node.height ≡ max (height node.left) (height node.right) + 1 = balanced.0 in
    (omega arith, omega arith)

-- One more than the higher side, before and after.
higher : (l r m n t : ℕ) → l ≤ m → m ≤ l + 1 → n ≡ r → l ≤ r + 1 → r ≤ l + 1 → max m n ≤ t → (AreEven m n → t ≡ max m n + 1) → (h : ℕ) → h ≡ max l r + 1 → h ≤ t
higher l r m n t low high is a b least even h own = elim (cases_lt (n + 1) m) [
  | inl far ↦ omega arith
  | inr near ↦ (let e : t ≡ max m n + 1 = even (omega arith, omega arith) in omega arith)
]

lower : (l r m n t : ℕ) → l ≤ m + 1 → m ≤ l → n ≡ r → l ≤ r + 1 → r ≤ l + 1 → max m n ≤ t → (AreEven m n → t ≡ max m n + 1) → (h : ℕ) → h ≡ max l r + 1 → h ≤ t + 1
lower l r m n t low high is a b least even h own = elim (cases_lt (m + 1) n) [
  | inl far ↦ omega arith
  | inr near ↦ (let e : t ≡ max m n + 1 = even (omega arith, omega arith) in omega arith)
]

turned-even : (m n t : ℕ) → (AreEven m n → t ≡ max m n + 1) → AreEven n m → t ≡ max n m + 1
turned-even m n t even e = let is = even (e.1, e.0) in omega arith

turned-max : (m n t : ℕ) → max m n ≤ t → max n m ≤ t
turned-max m n t le = omega arith

pub grows-left : (all : Tree) (root mid new : Node) → IsBalancedNode root → height all ≡ root.height → height all < 200 → mid.right ≡ root.right → (IsBalanced root.left → height root.left < 200 → Grows root.left mid.left)
    → (IsNearlyBalanced mid → Balances mid new) → IsBalancedNode new × ((height all ≤ new.height) × (new.height ≤ height all + 1))
grows-left all root mid new balanced same small same_side change done =
    let own : root.height ≡ max (height root.left) (height root.right) + 1 = balanced.0 in
    let a : height root.left ≤ height root.right + 1 = balanced.1.0.0 in
    let b : height root.right ≤ height root.left + 1 = balanced.1.0.1 in
    let fits = parts all root balanced same small in
    let left_fits : height root.left < 200 = fits.0 in
    let right_fits : height root.right < 200 = fits.1 in
    let g = change balanced.1.1.0 fits.0 in
    let low : height root.left ≤ height mid.left = g.low in
    let high : height mid.left ≤ height root.left + 1 = g.high in
    let k : height mid.right ≡ height root.right = ap height same_side in
    let is = done (record { left = g.balanced; right = subst IsBalanced (sym same_side) balanced.1.1.1; left_high = omega arith; right_high = omega arith; left_small = omega arith; right_small = omega arith }) in
    let top : new.height ≤ max (height mid.left) (height mid.right) + 1 = is.high in
    (is.balanced, (higher (height root.left) (height root.right) (height mid.left) (height mid.right) new.height low high k a b (is.low) (is.even) (height all) (omega arith), omega arith))

pub grows-right : (all : Tree) (root mid new : Node) → IsBalancedNode root → height all ≡ root.height → height all < 200 → mid.left ≡ root.left → (IsBalanced root.right → height root.right < 200 → Grows root.right mid.right)
    → (IsNearlyBalanced mid → Balances mid new) → IsBalancedNode new × ((height all ≤ new.height) × (new.height ≤ height all + 1))
grows-right all root mid new balanced same small same_side change done =
    let own : root.height ≡ max (height root.left) (height root.right) + 1 = balanced.0 in
    let a : height root.left ≤ height root.right + 1 = balanced.1.0.0 in
    let b : height root.right ≤ height root.left + 1 = balanced.1.0.1 in
    let fits = parts all root balanced same small in
    let left_fits : height root.left < 200 = fits.0 in
    let right_fits : height root.right < 200 = fits.1 in
    let g = change balanced.1.1.1 fits.1 in
    let low : height root.right ≤ height mid.right = g.low in
    let high : height mid.right ≤ height root.right + 1 = g.high in
    let k : height mid.left ≡ height root.left = ap height same_side in
    let is = done (record { right = g.balanced; left = subst IsBalanced (sym same_side) balanced.1.1.0; left_high = omega arith; right_high = omega arith; left_small = omega arith; right_small = omega arith }) in
    let top : new.height ≤ max (height mid.left) (height mid.right) + 1 = is.high in
    (is.balanced, (higher (height root.right) (height root.left) (height mid.right) (height mid.left) new.height low high k b a (turned-max (height mid.left) (height mid.right) new.height is.low) (turned-even (height mid.left) (height mid.right) new.height is.even) (height all) (omega arith), omega arith))

pub shrinks-left : (all : Tree) (root mid new : Node) → IsBalancedNode root → height all ≡ root.height → height all < 200 → mid.right ≡ root.right → (IsBalanced root.left → height root.left < 200 → Shrinks root.left mid.left)
    → (IsNearlyBalanced mid → Balances mid new) → IsBalancedNode new × ((height all ≤ new.height + 1) × (new.height ≤ height all))
shrinks-left all root mid new balanced same small same_side change done =
    let own : root.height ≡ max (height root.left) (height root.right) + 1 = balanced.0 in
    let a : height root.left ≤ height root.right + 1 = balanced.1.0.0 in
    let b : height root.right ≤ height root.left + 1 = balanced.1.0.1 in
    let fits = parts all root balanced same small in
    let left_fits : height root.left < 200 = fits.0 in
    let right_fits : height root.right < 200 = fits.1 in
    let g = change balanced.1.1.0 fits.0 in
    let low : height root.left ≤ height mid.left + 1 = g.low in
    let high : height mid.left ≤ height root.left = g.high in
    let k : height mid.right ≡ height root.right = ap height same_side in
    let is = done (record { left = g.balanced; right = subst IsBalanced (sym same_side) balanced.1.1.1; left_high = omega arith; right_high = omega arith; left_small = omega arith; right_small = omega arith }) in
    let top : new.height ≤ max (height mid.left) (height mid.right) + 1 = is.high in
    (is.balanced, (lower (height root.left) (height root.right) (height mid.left) (height mid.right) new.height low high k a b (is.low) (is.even) (height all) (omega arith), omega arith))

pub shrinks-right : (all : Tree) (root mid new : Node) → IsBalancedNode root → height all ≡ root.height → height all < 200 → mid.left ≡ root.left → (IsBalanced root.right → height root.right < 200 → Shrinks root.right mid.right)
    → (IsNearlyBalanced mid → Balances mid new) → IsBalancedNode new × ((height all ≤ new.height + 1) × (new.height ≤ height all))
shrinks-right all root mid new balanced same small same_side change done =
    let own : root.height ≡ max (height root.left) (height root.right) + 1 = balanced.0 in
    let a : height root.left ≤ height root.right + 1 = balanced.1.0.0 in
    let b : height root.right ≤ height root.left + 1 = balanced.1.0.1 in
    let fits = parts all root balanced same small in
    let left_fits : height root.left < 200 = fits.0 in
    let right_fits : height root.right < 200 = fits.1 in
    let g = change balanced.1.1.1 fits.1 in
    let low : height root.right ≤ height mid.right + 1 = g.low in
    let high : height mid.right ≤ height root.right = g.high in
    let k : height mid.left ≡ height root.left = ap height same_side in
    let is = done (record { right = g.balanced; left = subst IsBalanced (sym same_side) balanced.1.1.0; left_high = omega arith; right_high = omega arith; left_small = omega arith; right_small = omega arith }) in
    let top : new.height ≤ max (height mid.left) (height mid.right) + 1 = is.high in
    (is.balanced, (lower (height root.right) (height root.left) (height mid.right) (height mid.left) new.height low high k b a (turned-max (height mid.left) (height mid.right) new.height is.low) (turned-even (height mid.left) (height mid.right) new.height is.even) (height all) (omega arith), omega arith))

-- the first leaf of a tree
pub grows-first : (old : Tree) (leaf : Leaf) (new : Node) → Empty ≡ old → new ≡ lone_node leaf → IsBalancedNode new × ((height old ≤ new.height) × (new.height ≤ height old + 1))
grows-first old leaf new none is =
    let h : 0 ≡ height old = ap height none in
    let one : new.height ≡ 1 = ap (λ (n : Node). n.height) is in
    (subst IsBalancedNode (sym is) (refl, ((omega arith, omega arith), (tt, tt))), (omega arith, omega arith))

-- a tree without leaves
no-leaves : (t : Tree) → leaves t ≡ [] → height t ≡ 0
no-leaves Empty none = refl
no-leaves (Fork' p left leaf right h) none = absurd (let long : length (leaves left ++ leaf ∷ leaves right) ≡ 0 = ap length none in let parts = length-append (leaves left) (leaf ∷ leaves right) in omega (arith, parts))

-- what two trees join to, where the right one has no leaves, and where its first leaf becomes the root
pub joins-none : (left right : Tree) → leaves right ≡ [] → IsBalanced left → AreEven (height left) (height right) → Joins left right left
joins-none left right none balanced even = let h = no-leaves right none in record { balanced = balanced; low = omega arith; high = omega arith }

joined-height : (l r n t : ℕ) → r ≤ n + 1 → n ≤ r → l ≤ r + 1 → r ≤ l + 1 → max l n ≤ t → (AreEven l n → t ≡ max l n + 1) → max l r ≤ t
joined-height l r n t low high a b least even = elim (cases_lt (n + 1) l) [
  | inl far ↦ omega arith
  | inr near ↦ (let e : t ≡ max l n + 1 = even (omega arith, omega arith) in omega arith)
]

pub joins-first : (left right : Tree) (mid new : Node) → IsBalanced left → IsBalanced right → AreEven (height left) (height right) → height left < 200 → height right < 200 → mid.left ≡ left
    → (IsBalanced right → height right < 200 → Shrinks right mid.right) → (IsNearlyBalanced mid → Balances mid new)
    → IsBalancedNode new × ((max (height left) (height right) ≤ new.height) × (new.height ≤ max (height left) (height right) + 1))
joins-first left right mid new bl br even sl sr same change done =
    let a : height left ≤ height right + 1 = even.0 in
    let b : height right ≤ height left + 1 = even.1 in
    let g = change br sr in
    let low : height right ≤ height mid.right + 1 = g.low in
    let high : height mid.right ≤ height right = g.high in
    let k : height mid.left ≡ height left = ap height same in
    let is = done (record { left = subst IsBalanced (sym same) bl; right = g.balanced; left_high = omega arith; right_high = omega arith; left_small = omega arith; right_small = omega arith }) in
    let top : new.height ≤ max (height mid.left) (height mid.right) + 1 = is.high in (
      is.balanced,
      (
        joined-height (height left) (height right) (height mid.right) new.height low high a b (subst (λ h. max h (height mid.right) ≤ new.height) k is.low)
            (subst (λ h. AreEven h (height mid.right) → new.height ≡ max h (height mid.right) + 1) k is.even),
        omega arith,
      ),
    )

-- a tree whose left side has no leaves, without its root
pub shrinks-none : (all : Tree) (root : Node) (new : Tree) → IsBalancedNode root → height all ≡ root.height → leaves root.left ≡ [] → new ≡ root.right → Shrinks all new
shrinks-none all root new balanced same none is =
    let own : root.height ≡ max (height root.left) (height root.right) + 1 = balanced.0 in
    let left : height root.left ≡ 0 = no-leaves root.left none in
    let high : height new ≡ height root.right = ap height is in
    record { balanced = subst IsBalanced (sym is) balanced.1.1.1; low = omega arith; high = omega arith }

-- a tree without its root, whose sides are joined
pub shrinks-root : (all : Tree) (root : Node) (left right new : Tree) → IsBalancedNode root → height all ≡ root.height → height all < 200 → left ≡ root.left → right ≡ root.right
    → (IsBalanced left → IsBalanced right → AreEven (height left) (height right) → height left < 200 → height right < 200 → Joins left right new) → Shrinks all new
shrinks-root all root left right new balanced same small is_left is_right join =
    let own : root.height ≡ max (height root.left) (height root.right) + 1 = balanced.0 in
    let fits = parts all root balanced same small in
    let l : height left ≡ height root.left = ap height is_left in
    let r : height right ≡ height root.right = ap height is_right in
    let a : height root.left ≤ height root.right + 1 = balanced.1.0.0 in
    let b : height root.right ≤ height root.left + 1 = balanced.1.0.1 in
    let lf : height root.left < 200 = fits.0 in
    let rf : height root.right < 200 = fits.1 in
    let joins = join (subst IsBalanced (sym is_left) balanced.1.1.0) (subst IsBalanced (sym is_right) balanced.1.1.1) (omega arith, omega arith) (omega arith) (omega arith) in
    let low : max (height left) (height right) ≤ height new = joins.low in
    let high : height new ≤ max (height left) (height right) + 1 = joins.high in
    record { balanced = joins.balanced; low = omega arith; high = omega arith }

-- ---- how high a tree with so many leaves is

half-more : (h l : ℕ) → h ≤ l + 2 → 2 ≤ h → 2 ^ (h / 2) ≤ 2 ^ (l / 2) * 2
half-more h l near two =
    let le : h / 2 ≤ l / 2 + 1 = omega arith in
    let more : 2 ^ (h / 2) ≤ 2 ^ (l / 2 + 1) = pow-le-pow_right (omega arith) le in
    subst (λ n. 2 ^ (h / 2) ≤ n) (pow_more 2 (l / 2)) more

half-small : (h : ℕ) → h < 2 → 2 ^ (h / 2) ≡ 1
half-small h small = let e : h / 2 ≡ 0 = omega arith in ap (λ n. 2 ^ n) e

-- A tree of height h has at least 2 ^ (h / 2) - 1 leaves.
pub has-leaves : (t : Tree) → IsBalanced t → 2 ^ (height t / 2) ≤ length (leaves t) + 1
has-leaves Empty balanced = omega arith
has-leaves (Fork' p left leaf right h) balanced =
    let own : h ≡ max (height left) (height right) + 1 = balanced.0 in
    let a : height left ≤ height right + 1 = balanced.1.0.0 in
    let b : height right ≤ height left + 1 = balanced.1.0.1 in
    let all : length (leaves left ++ leaf ∷ leaves right) ≡ length (leaves left) + length (leaf ∷ leaves right) = length-append (leaves left) (leaf ∷ leaves right) in
    let l = has-leaves left balanced.1.1.0 in
    let r = has-leaves right balanced.1.1.1 in
    elim (cases_lt h 2) [
      | inl small ↦ (let one = half-small h small in omega (arith, one, all))
      | inr high ↦
          (let x = half-more h (height left) (omega arith) high in
          let y = half-more h (height right) (omega arith) high in
          omega (arith, x, y, l, r, all))
    ]

-- So no chain that there can be makes a tree too high for a node's eight bits.
pub few-high : (t : Tree) → IsBalanced t → length (leaves t) < 2 ^ 64 → height t < 200
few-high t balanced few =
    elim (cases_lt (height t) 200) [
      | inl low ↦ low
      | inr high ↦ absurd (
          let many = has-leaves t balanced in
          let half : 100 ≤ height t / 2 = omega arith in
          let most : 2 ^ 100 ≤ 2 ^ (height t / 2) = pow-le-pow_right (omega arith) half in
          omega (arith, many, most, few))
    ]
