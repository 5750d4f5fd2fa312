use Rattle.std.proofs.Common.{◌≡◌, ◌<◌, ◌≤◌, ap, subst, ◌∙◌, arith}
use Rattle.gv_rmap.specs.declared.tree.Node.{Node}
use Rattle.gv_rmap.specs.Tree.{height, IsBalanced, IsBalancedNode}
use Rattle.gv_rmap.proofs.Heights.{leans-kept, leans-turned}
use Rattle.gv_rmap.proofs.tree.leaning_left.Goals as goal
use Rattle.gv_rmap.proofs.tree.leaning_left.Goals.{then-height, else-height}

pub returns-after-height-clause-leaning : goal.returns-after-height-clause-leaning
returns-after-height-clause-leaning c = λ balanced small.
    let root = c.in-Fork.root.value in
    let own : IsBalancedNode root = subst IsBalanced c.in-Fork.is balanced in
    let high : height c.args.tree ≡ root.height = ap height c.in-Fork.is in
    let right : c.height.result ≡ height root.right = c.height.ensures ∙ ap (λ (n : Node). height n.right) c.deref.ensures in
    let left : c.height-in-Fork.result ≡ height root.left = c.height-in-Fork.ensures ∙ ap (λ (n : Node). height n.left) c.deref-in-Fork.ensures in
    elim c.if-height.branch [
      | then-height w ↦
          let turned = leans-turned root w.turned_left.result.value own (let lt : c.height-in-Fork.result < c.height.result = w.if-height.true in omega arith) (omega arith) w.turned_left.ensures.turned in
          rw (high, w.result-is) turned
      | else-height w ↦ rw (high, w.result-is) (leans-kept root own (let le : c.height.result ≤ c.height-in-Fork.result = w.if-height.false in omega arith))
    ]
