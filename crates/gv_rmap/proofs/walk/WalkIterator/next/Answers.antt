use Rattle.std.proofs.Common.{◌≡◌, [], None, Some, sym, ◌∙◌, rules, arith}
use Rattle.gv_rmap.specs.Leaves.{is_behind}
use Rattle.gv_rmap.specs.Tree.{leaves}
use Rattle.gv_rmap.proofs.Order.{walk-next, walk-end}
use Rattle.gv_rmap.proofs.walk.WalkIterator.next.Goals as goal

pub returns-in_err-leaf-clause-steps : goal.returns-in_err-leaf-clause-steps
returns-in_err-leaf-clause-steps c =
    let none : c.first_behind.result ≡ None = search rules in
    let over : c.args.self.now ≡ [] = sym c.self.view_is ∙ walk-end (is_behind c.self.inside.last) (leaves c.self.inside.chain.now) (sym (c.first_behind.ensures c.self.invariant) ∙ none) in
    let is : c.from_residual.result ≡ None = search rules in
    rw is (over, over)

pub returns-clause-steps : goal.returns-clause-steps
returns-clause-steps c =
    let some : c.first_behind.result ≡ Some c.in_ok-leaf.leaf = search rules in
    sym c.self.view_is ∙ walk-next c.self.inside.last (leaves c.self.inside.chain.now) c.in_ok-leaf.leaf c.self.invariant (sym (c.first_behind.ensures c.self.invariant) ∙ some)

pub returns-clause-goes : goal.returns-clause-goes
returns-clause-goes c = let steps = returns-clause-steps c in grind (arith, steps)
