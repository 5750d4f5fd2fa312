use Rattle.std.proofs.lemmas.List.Sums.{get_or-le-sum_by}
use Rattle.std.proofs.Common.{◌≡◌, ◌≤◌, [], length, sum_by, arith, ap, sym, subst, ◌∙◌}
use Rattle.gv_rmap.specs.Leaves.{IsInOrder, HasEachOnce}
use Rattle.gv_rmap.specs.Chains.{chain_of}
use Rattle.gv_rmap.specs.Tree.{leaves}
use Rattle.gv_rmap.proofs.Order.{all_behind, each_once}
use Rattle.gv_rmap.proofs.Frames.{chain-of_tree}
use Rattle.gv_rmap.proofs.chains.Chains.walk.Goals as goal

chain : (c : goal.After-index) → leaves c.index.result.now ≡ chain_of c.args.self.now c.args.frame
chain c = chain-of_tree c.self.inside.chains.items c.args.self.now.chains c.args.frame c.index.result.now (ap (λ s. s.chains) c.self.view_is) c.requires c.index.ensures

order : (c : goal.After-index) → IsInOrder (chain_of c.args.self.now c.args.frame)
order c = subst (λ s. IsInOrder (chain_of s c.args.frame)) c.self.view_is (c.self.invariant.order c.args.frame)

pub invariant_of-result : goal.invariant_of-result
invariant_of-result c = subst IsInOrder (sym (chain c)) (order c)

pub returns-clause-leaves : goal.returns-clause-leaves
returns-clause-leaves c = all_behind (leaves c.index.result.now) ∙ chain c

pub returns-clause-each_once : goal.returns-clause-each_once
returns-clause-each_once c =
    let chain = chain_of c.args.self.now c.args.frame in
    subst (HasEachOnce chain) (sym (returns-clause-leaves c)) (each_once chain (order c))

pub returns-clause-countable : goal.returns-clause-countable
returns-clause-countable c =
    let now = c.args.self.now in
    let most : length (chain_of now c.args.frame) ≤ sum_by length now.chains = get_or-le-sum_by length now.chains c.args.frame [] c.requires in
    let small = c.self.inside.spare.small in
    let ok = c.self.inside.spare.ok in
    omega (arith, ap length (returns-clause-leaves c), most, ap (λ s. sum_by length s.chains) c.self.view_is, c.self.invariant.nodes, c.self.invariant.room)
