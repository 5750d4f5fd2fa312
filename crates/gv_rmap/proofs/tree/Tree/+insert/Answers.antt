use Rattle.std.proofs.Common.{Box, Global, ◌+◌, ◌≡◌, subst, ◌∷◌, ◌++◌, ◌<◌, ◌≤◌, ap, sym, ◌∙◌}
use Rattle.gv_rmap.specs.Leaves.{key}
use Rattle.gv_rmap.specs.declared.tree.Tree.{Tree}
use Rattle.gv_rmap.specs.declared.tree.Node.{Node}
use Rattle.gv_rmap.specs.Tree.{leaves, height, IsBalanced, IsBalancedNode, Grows}
use Rattle.gv_rmap.proofs.Heights.{grows-left, grows-right, grows-first}
use Rattle.gv_rmap.proofs.Sides.{comes_left, comes_right, not_before}
use Rattle.gv_rmap.proofs.tree.Tree.+insert.Goals as goal
use Rattle.gv_rmap.proofs.tree.Tree.+insert.Goals.{then-is_before, else-is_before}

pub returns-clause-leaves : goal.returns-clause-leaves
returns-clause-leaves t c = λ order.
    let root = c.in-Fork.root.value in
    let parts : leaves c.args.self.now ≡ leaves root.left ++ root.leaf ∷ leaves root.right = ap leaves (sym c.in-Fork.ensures.taken) in
    c.balanced.ensures.leaves ∙ elim c.if-is_before.branch [
      | then-is_before w ↦
          let before : key c.args.leaf < key root.leaf = rw c.deref.ensures at (c.is_before.ensures.0 w.if-is_before.true) in
          rw (w.root-is, w.deref_mut-then-is_before.ensures.value)
          (comes_left (leaves c.args.self.now) (leaves root.left) root.leaf (leaves root.right) parts c.args.leaf (leaves w.insert.new.self) before (rw w.deref_mut-then-is_before.ensures.value at w.insert.ensures.leaves) order)
      | else-is_before w ↦
          let behind : key root.leaf ≤ key c.args.leaf = rw c.deref.ensures at (not_before _ _ _ c.is_before.ensures w.if-is_before.false) in
          rw (w.root-is, w.deref_mut-else-is_before.ensures.value)
          (comes_right (leaves c.args.self.now) (leaves root.left) root.leaf (leaves root.right) parts c.args.leaf (leaves w.insert-else-is_before.new.self) behind (rw w.deref_mut-else-is_before.ensures.value at w.insert-else-is_before.ensures.leaves) order)
    ]

pub returns-clause-balanced : goal.returns-clause-balanced
returns-clause-balanced t c = λ balanced small.
    let root = c.in-Fork.root.value in
    let there = sym c.in-Fork.ensures.taken in
    let own : IsBalancedNode root = subst IsBalanced there balanced in
    let new = c.balanced.result.value in
    let done : IsBalancedNode new × ((height c.args.self.now ≤ new.height) × (new.height ≤ height c.args.self.now + 1)) = elim c.if-is_before.branch [
      | then-is_before w ↦
          let value = w.deref_mut-then-is_before.ensures.value in
          let mine = ap (λ (b : Box Node Global). b.value.left) w.root-is in
          let grow = subst (λ (side : Tree). IsBalanced side → height side < 200 → Grows side w.insert.new.self) (ap (λ (n : Node). n.left) value) w.insert.ensures.balanced in
          grows-left c.args.self.now root c.if-is_before.root.value c.balanced.result.value own (ap height there) small
          (ap (λ (b : Box Node Global). b.value.right) w.root-is ∙ ap (λ (n : Node). n.right) value)
          (subst (λ (side : Tree). IsBalanced root.left → height root.left < 200 → Grows root.left side) (sym mine) grow) c.balanced.ensures.balanced
      | else-is_before w ↦
          let value = w.deref_mut-else-is_before.ensures.value in
          let mine = ap (λ (b : Box Node Global). b.value.right) w.root-is in
          let grow = subst (λ (side : Tree). IsBalanced side → height side < 200 → Grows side w.insert-else-is_before.new.self) (ap (λ (n : Node). n.right) value) w.insert-else-is_before.ensures.balanced in
          grows-right c.args.self.now root c.if-is_before.root.value c.balanced.result.value own (ap height there) small
          (ap (λ (b : Box Node Global). b.value.left) w.root-is ∙ ap (λ (n : Node). n.left) value)
          (subst (λ (side : Tree). IsBalanced root.right → height root.right < 200 → Grows root.right side) (sym mine) grow) c.balanced.ensures.balanced
    ] in
    record { balanced = done.0; low = done.1.0; high = done.1.1 }

pub returns-in_default-clause-balanced : goal.returns-in_default-clause-balanced
returns-in_default-clause-balanced t c = λ balanced small.
    let done = grows-first c.args.self.now c.args.leaf c.of.result (sym c.in_default.is ∙ c.take.ensures.taken) c.of.ensures in
    record { balanced = done.0; low = done.1.0; high = done.1.1 }
