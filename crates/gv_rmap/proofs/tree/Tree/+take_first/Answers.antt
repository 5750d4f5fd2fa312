use Rattle.std.proofs.Common.{◌<◌, ap, sym, subst, ◌∙◌}
use Rattle.gv_rmap.specs.declared.tree.Tree.{Tree}
use Rattle.gv_rmap.specs.declared.tree.Node.{Node}
use Rattle.gv_rmap.specs.Tree.{leaves, height, IsBalanced, Shrinks}
use Rattle.gv_rmap.proofs.Heights.{shrinks-left, shrinks-none}
use Rattle.gv_rmap.proofs.tree.Tree.+take_first.Goals as goal

pub returns-in_default-take_first-clause-balanced : goal.returns-in_default-take_first-clause-balanced
returns-in_default-take_first-clause-balanced t c = λ balanced small.
    let root = c.in-Fork.root.value in
    let there = sym c.in-Fork.ensures.taken in
    let value = c.deref_mut.ensures.value in
    let none = ap (λ (n : Node). leaves n.left) (sym value) ∙ c.in_default-take_first.ensures.leaves.0 in
    shrinks-none c.args.self.now root c.take-in_default-take_first.result (subst IsBalanced there balanced) (ap height there) none
    (c.take-in_default-take_first.ensures.taken ∙ ap (λ (n : Node). n.right) c.deref_mut-in_default-take_first.ensures.value ∙ ap (λ (n : Node). n.right) value)

pub returns-clause-balanced : goal.returns-clause-balanced
returns-clause-balanced t c = λ balanced small.
    let root = c.in-Fork.root.value in
    let there = sym c.in-Fork.ensures.taken in
    let value = c.deref_mut.ensures.value in
    let change = subst (λ (side : Tree). IsBalanced side → height side < 200 → Shrinks side c.take_first.new.self) (ap (λ (n : Node). n.left) value) c.take_first.ensures.balanced in
    let done = shrinks-left c.args.self.now root _ c.balanced.result.value (subst IsBalanced there balanced) (ap height there) small (ap (λ (n : Node). n.right) value) change c.balanced.ensures.balanced in
    record { balanced = done.0; low = done.1.0; high = done.1.1 }
