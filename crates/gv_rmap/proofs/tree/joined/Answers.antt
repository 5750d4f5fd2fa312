use Rattle.std.proofs.Common.{ap}
use Rattle.gv_rmap.specs.declared.tree.Node.{Node}
use Rattle.gv_rmap.proofs.Heights.{joins-none, joins-first}
use Rattle.gv_rmap.proofs.tree.joined.Goals as goal

pub returns-in_default-clause-balanced : goal.returns-in_default-clause-balanced
returns-in_default-clause-balanced c = λ left right even small_left small_right. joins-none c.args.left c.args.right c.in_default.ensures.leaves.0 left even

pub returns-clause-balanced : goal.returns-clause-balanced
returns-clause-balanced c = λ left right even small_left small_right.
    let done = joins-first c.args.left c.args.right _ c.balanced.result.value left right even small_left small_right (ap (λ (n : Node). n.left) c.deref_mut-2.ensures.value) c.take_first.ensures.balanced c.balanced.ensures.balanced in
    record { balanced = done.0; low = done.1.0; high = done.1.1 }
