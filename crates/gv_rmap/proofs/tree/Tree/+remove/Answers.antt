use Rattle.std.proofs.Common.{subst, ◌≡◌, ◌∷◌, ◌++◌, ◌<◌, ◌≤◌, ap, sym, ◌∙◌, arith}
use Rattle.gv_rmap.specs.Leaves.{key}
use Rattle.gv_rmap.specs.declared.tree.Tree.{Tree}
use Rattle.gv_rmap.specs.declared.tree.Node.{Node}
use Rattle.gv_rmap.specs.Tree.{leaves, height, IsBalanced, Shrinks}
use Rattle.gv_rmap.proofs.Heights.{shrinks-left, shrinks-right, shrinks-root}
use Rattle.gv_rmap.proofs.Sides.{goes_left, goes_right, goes_here, stands_left, stands_right, not_before}
use Rattle.gv_rmap.proofs.tree.Tree.+remove.Goals as goal

pub returns-then-is_before-clause-found : goal.returns-then-is_before-clause-found
returns-then-is_before-clause-found t c = λ order there.
    let root = c.in-Fork.root.value in
    let parts : leaves c.args.self.now ≡ leaves root.left ++ root.leaf ∷ leaves root.right = ap leaves (sym c.in-Fork.ensures.taken) in
    let before : key c.args.leaf < key root.leaf = rw c.deref.ensures at (c.is_before.ensures.0 c.if-is_before.true) in
    let side = stands_left (leaves c.args.self.now) (leaves root.left) root.leaf (leaves root.right) parts c.args.leaf before order there in
    (rw c.deref_mut.ensures.value at c.remove-node.ensures.found) side.0 side.1

pub returns-then-is_before-clause-leaves : goal.returns-then-is_before-clause-leaves
returns-then-is_before-clause-leaves t c = λ order.
    let root = c.in-Fork.root.value in
    let parts : leaves c.args.self.now ≡ leaves root.left ++ root.leaf ∷ leaves root.right = ap leaves (sym c.in-Fork.ensures.taken) in
    let before : key c.args.leaf < key root.leaf = rw c.deref.ensures at (c.is_before.ensures.0 c.if-is_before.true) in
    c.balanced.ensures.leaves
    ∙ rw c.deref_mut.ensures.value
    (goes_left (leaves c.args.self.now) (leaves root.left) root.leaf (leaves root.right) parts c.args.leaf (leaves c.remove-node.new.self) before (rw c.deref_mut.ensures.value at c.remove-node.ensures.leaves) order)

pub returns-then-is_before-2-clause-found : goal.returns-then-is_before-2-clause-found
returns-then-is_before-2-clause-found t c = λ order there.
    let root = c.in-Fork.root.value in
    let parts : leaves c.args.self.now ≡ leaves root.left ++ root.leaf ∷ leaves root.right = ap leaves (sym c.in-Fork.ensures.taken) in
    let behind : key root.leaf < key c.args.leaf = rw c.deref-2.ensures at (c.is_before-2.ensures.0 c.if-is_before-2.true) in
    let side = stands_right (leaves c.args.self.now) (leaves root.left) root.leaf (leaves root.right) parts c.args.leaf behind order there in
    (rw c.deref_mut-then-is_before-2.ensures.value at c.remove-node-then-is_before-2.ensures.found) side.0 side.1

pub returns-then-is_before-2-clause-leaves : goal.returns-then-is_before-2-clause-leaves
returns-then-is_before-2-clause-leaves t c = λ order.
    let root = c.in-Fork.root.value in
    let parts : leaves c.args.self.now ≡ leaves root.left ++ root.leaf ∷ leaves root.right = ap leaves (sym c.in-Fork.ensures.taken) in
    let behind : key root.leaf < key c.args.leaf = rw c.deref-2.ensures at (c.is_before-2.ensures.0 c.if-is_before-2.true) in
    c.balanced-then-is_before-2.ensures.leaves
    ∙ rw c.deref_mut-then-is_before-2.ensures.value
    (goes_right (leaves c.args.self.now) (leaves root.left) root.leaf (leaves root.right) parts c.args.leaf (leaves c.remove-node-then-is_before-2.new.self) behind (rw c.deref_mut-then-is_before-2.ensures.value at c.remove-node-then-is_before-2.ensures.leaves) order)

pub returns-clause-leaves : goal.returns-clause-leaves
returns-clause-leaves t c = λ order.
    let root = c.in-Fork.root.value in
    let parts : leaves c.args.self.now ≡ leaves root.left ++ root.leaf ∷ leaves root.right = ap leaves (sym c.in-Fork.ensures.taken) in
    let behind : key root.leaf ≤ key c.args.leaf = rw c.deref.ensures at (not_before _ _ _ c.is_before.ensures c.if-is_before.false) in
    let before : key c.args.leaf ≤ key root.leaf = rw c.deref-2.ensures at (not_before _ _ _ c.is_before-2.ensures c.if-is_before-2.false) in
    let same : key root.leaf ≡ key c.args.leaf = omega arith in
    let gone = goes_here (leaves c.args.self.now) (leaves root.left) root.leaf (leaves root.right) parts c.args.leaf same order in
    let left : c.take-2.result ≡ root.left = c.take-2.ensures.taken ∙ ap (λ n. n.left) c.deref_mut-2.ensures.value in
    let right : c.take-3.result ≡ root.right = c.take-3.ensures.taken ∙ ap (λ n. n.right) c.deref_mut-3.ensures.value ∙ ap (λ n. n.right) c.deref_mut-2.ensures.value in
    c.joined.ensures.leaves ∙ ap (λ l. leaves l ++ leaves c.take-3.result) left ∙ ap (λ r. leaves root.left ++ leaves r) right ∙ gone

pub returns-then-is_before-clause-balanced : goal.returns-then-is_before-clause-balanced
returns-then-is_before-clause-balanced t c = λ balanced small.
    let root = c.in-Fork.root.value in
    let there = sym c.in-Fork.ensures.taken in
    let value = c.deref_mut.ensures.value in
    let change = subst (λ (side : Tree). IsBalanced side → height side < 200 → Shrinks side c.remove-node.new.self) (ap (λ (n : Node). n.left) value) c.remove-node.ensures.balanced in
    let done = shrinks-left c.args.self.now root _ c.balanced.result.value (subst IsBalanced there balanced) (ap height there) small (ap (λ (n : Node). n.right) value) change c.balanced.ensures.balanced in
    record { balanced = done.0; low = done.1.0; high = done.1.1 }

pub returns-then-is_before-2-clause-balanced : goal.returns-then-is_before-2-clause-balanced
returns-then-is_before-2-clause-balanced t c = λ balanced small.
    let root = c.in-Fork.root.value in
    let there = sym c.in-Fork.ensures.taken in
    let value = c.deref_mut-then-is_before-2.ensures.value in
    let change = subst (λ (side : Tree). IsBalanced side → height side < 200 → Shrinks side c.remove-node-then-is_before-2.new.self) (ap (λ (n : Node). n.right) value) c.remove-node-then-is_before-2.ensures.balanced in
    let done = shrinks-right c.args.self.now root _ c.balanced-then-is_before-2.result.value (subst IsBalanced there balanced) (ap height there) small (ap (λ (n : Node). n.left) value) change c.balanced-then-is_before-2.ensures.balanced in
    record { balanced = done.0; low = done.1.0; high = done.1.1 }

pub returns-clause-balanced : goal.returns-clause-balanced
returns-clause-balanced t c = λ balanced small.
    let root = c.in-Fork.root.value in
    let there = sym c.in-Fork.ensures.taken in
    let left : c.take-2.result ≡ root.left = c.take-2.ensures.taken ∙ ap (λ n. n.left) c.deref_mut-2.ensures.value in
    let right : c.take-3.result ≡ root.right = c.take-3.ensures.taken ∙ ap (λ n. n.right) c.deref_mut-3.ensures.value ∙ ap (λ n. n.right) c.deref_mut-2.ensures.value in
    shrinks-root c.args.self.now root c.take-2.result c.take-3.result c.joined.result (subst IsBalanced there balanced) (ap height there) small left right c.joined.ensures.balanced
