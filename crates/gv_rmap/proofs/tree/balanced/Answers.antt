use Rattle.std.proofs.Common.{◌≡◌, ◌<◌, ap, subst, ◌∙◌, arith}
use Rattle.gv_rmap.specs.declared.tree.Tree.{Tree}
use Rattle.gv_rmap.specs.declared.tree.Node.{Node}
use Rattle.gv_rmap.specs.Tree.{height, IsBalanced, IsLeaningLeft, IsLeaningRight}
use Rattle.gv_rmap.proofs.Heights.{balances-right, balances-left}
use Rattle.gv_rmap.proofs.tree.balanced.Goals as goal

pub returns-then-left-saturating_add-clause-balanced : goal.returns-then-left-saturating_add-clause-balanced
returns-then-left-saturating_add-clause-balanced c = λ near.
    let root = c.args.root.value in
    let left : c.height-left.result ≡ height root.left = c.height-left.ensures ∙ ap (λ (n : Node). height n.left) c.deref.ensures in
    let right : c.height-right.result ≡ height root.right = c.height-right.ensures ∙ ap (λ (n : Node). height n.right) c.deref-2.ensures in
    let small : height root.right < 250 = near.right_small in
    let taken : c.take.result ≡ root.left = c.take.ensures.taken ∙ ap (λ (n : Node). n.left) c.deref_mut.ensures.value in
    let kept = ap (λ (n : Node). n.right) c.deref_mut-then-left-saturating_add.ensures.value ∙ ap (λ (n : Node). n.right) c.deref_mut.ensures.value in
    let leaning = subst (λ (t : Tree). IsBalanced t → height t < 250 → IsLeaningLeft (height t) c.leaning_left.result) taken c.leaning_left.ensures.leaning in
    let test : c.saturating_add.result < c.height-left.result = c.if-left-saturating_add.true in
    balances-right root _ c.turned_right.result.value c.leaning_left.result c.turned_right.ensures.turned kept leaning (omega (arith, c.saturating_add.ensures)) near

pub returns-then-right-saturating_add-clause-balanced : goal.returns-then-right-saturating_add-clause-balanced
returns-then-right-saturating_add-clause-balanced c = λ near.
    let root = c.args.root.value in
    let left : c.height-left.result ≡ height root.left = c.height-left.ensures ∙ ap (λ (n : Node). height n.left) c.deref.ensures in
    let right : c.height-right.result ≡ height root.right = c.height-right.ensures ∙ ap (λ (n : Node). height n.right) c.deref-2.ensures in
    let small : height root.left < 250 = near.left_small in
    let taken : c.take-then-right-saturating_add.result ≡ root.right = c.take-then-right-saturating_add.ensures.taken ∙ ap (λ (n : Node). n.right) c.deref_mut-then-right-saturating_add.ensures.value in
    let kept = ap (λ (n : Node). n.left) c.deref_mut-then-right-saturating_add-2.ensures.value ∙ ap (λ (n : Node). n.left) c.deref_mut-then-right-saturating_add.ensures.value in
    let leaning = subst (λ (t : Tree). IsBalanced t → height t < 250 → IsLeaningRight (height t) c.leaning_right.result) taken c.leaning_right.ensures.leaning in
    let test : c.saturating_add-2.result < c.height-right.result = c.if-right-saturating_add.true in
    balances-left root _ c.turned_left.result.value c.leaning_right.result c.turned_left.ensures.turned kept leaning (omega (arith, c.saturating_add-2.ensures)) near
