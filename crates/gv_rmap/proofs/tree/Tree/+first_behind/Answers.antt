use Rattle.std.proofs.Common.{◌≡◌, true, false, ap, sym, ◌∙◌}
use Rattle.gv_rmap.specs.Leaves.{is_behind}
use Rattle.gv_rmap.specs.Tree.{leaves}
use Rattle.gv_rmap.proofs.Sides.{found_left, found_right}
use Rattle.gv_rmap.proofs.tree.Tree.+first_behind.Goals as goal

pub returns-then-not-is_behind : goal.returns-then-not-is_behind
returns-then-not-is_behind t c =
    let node = c.in-Fork.node.value in
    let fails : is_behind c.args.last node.leaf ≡ false = ap (λ n. is_behind c.args.last n.leaf) (sym c.deref.ensures) ∙ sym c.is_behind.ensures ∙ c.if-not-is_behind.true in
    found_right (leaves c.args.self.now) (leaves node.left) node.leaf (leaves node.right) (ap leaves c.in-Fork.is) c.args.last c.first_behind.result fails
    (rw c.deref-then-not-is_behind.ensures at c.first_behind.ensures)

pub returns : goal.returns
returns t c = λ order.
    let node = c.in-Fork.node.value in
    let passes : is_behind c.args.last node.leaf ≡ true = ap (λ n. is_behind c.args.last n.leaf) (sym c.deref.ensures) ∙ sym c.is_behind.ensures ∙ c.if-not-is_behind.false in
    let all = found_left (leaves c.args.self.now) (leaves node.left) node.leaf (leaves node.right) (ap leaves c.in-Fork.is) c.args.last c.first_behind-2.result passes (rw c.deref-2.ensures at c.first_behind-2.ensures) in
    c.or.ensures ∙ rw c.deref-3.ensures (all order)
