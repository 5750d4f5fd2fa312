use Rattle.std.proofs.Common.{◌≡◌, ℕ, ◌+◌, [], length, map, set, get_or, sum_by, length-set, not, eqb, ap, sym, subst, ◌∙◌, arith}
use Rattle.std.proofs.lemmas.Grind.{common_steps}
use Rattle.gv_rmap.specs.Leaves.{key, without_leaf, IsInOrder}
use Rattle.gv_rmap.specs.Chains.{chain_of}
use Rattle.gv_rmap.specs.Tree.{leaves}
use Rattle.gv_rmap.proofs.Order.{order_filter, length-without_leaf, leaf_at-without_leaf, leaf_at-without_other}
use Rattle.gv_rmap.proofs.Frames.{frame_within, balanced-written, chain-of_tree, chains-set, order-set, count-set, changes-set}
use Rattle.gv_rmap.proofs.chains.Chains.unlink.Goals as goal

order : (c : goal.After-push_reserved) (f : ℕ) → IsInOrder (chain_of c.args.self.now f)
order c f = subst (λ s. IsInOrder (chain_of s f)) c.self.view_is (c.self.invariant.order f)

chain : (c : goal.After-push_reserved) → leaves c.index_mut.result.now ≡ chain_of c.args.self.now c.args.frame
chain c = chain-of_tree c.self.inside.chains.items c.args.self.now.chains c.args.frame c.index_mut.result.now (ap (λ s. s.chains) c.self.view_is) c.requires.frame c.index_mut.ensures.value

written : (c : goal.After-push_reserved) → map leaves (set c.self.inside.chains.items c.args.frame c.remove.new.self) ≡ set c.args.self.now.chains c.args.frame (without_leaf c.args.leaf (chain_of c.args.self.now c.args.frame))
written c =
    let now = c.args.self.now in
    chains-set c.self.inside.chains.items now.chains c.args.frame c.remove.new.self (without_leaf c.args.leaf (chain_of now c.args.frame)) (ap (λ s. s.chains) c.self.view_is)
    (c.remove.ensures.leaves (subst IsInOrder (sym (chain c)) (order c c.args.frame)) ∙ ap (without_leaf c.args.leaf) (chain c))

pushed : (c : goal.After-push_reserved) → length c.push_reserved.new.self.items ≡ length c.self.inside.spare.items + 1
pushed c = grind (arith, common_steps)

pub invariant_of-self : goal.invariant_of-self
invariant_of-self c =
    let now = c.args.self.now in
    let seen : map leaves c.self.inside.chains.items ≡ now.chains = ap (λ s. s.chains) c.self.view_is in
    let pushes = pushed c in
    let counted = count-set now.chains c.args.frame (without_leaf c.args.leaf (chain_of now c.args.frame)) c.requires.frame in
    let shorter = length-without_leaf c.args.leaf (chain_of now c.args.frame) (order c c.args.frame) c.requires.linked in
    record {
      order = λ f. subst (λ l. IsInOrder (get_or l f [])) (sym (written c))
          (order-set now.chains c.args.frame (without_leaf c.args.leaf (chain_of now c.args.frame)) c.requires.frame (order c) (order_filter (λ other. not (eqb (key other) (key c.args.leaf))) (chain_of now c.args.frame) (order c c.args.frame)) f);
      balanced = balanced-written c.self.inside.chains.items c.args.frame c.index_mut.result.now c.remove.new.self (frame_within c.self.inside.chains.items now.chains c.args.frame seen c.requires.frame) c.index_mut.ensures.value c.self.invariant.balanced
          (omega (arith, c.self.invariant.nodes, c.self.invariant.room, c.self.inside.spare.small)) (λ balanced small. (c.remove.ensures.balanced balanced small).balanced);
      frames = rw length-set c.self.invariant.frames;
      nodes = ap (λ l. sum_by length l + length c.push_reserved.new.self.items) (written c) ∙ omega (arith, counted, shorter, pushes, ap (sum_by length) seen, c.self.invariant.nodes);
      room = rw c.push_reserved.ensures.capacity c.self.invariant.room;
    }

pub returns-clause-after : goal.returns-clause-after
returns-clause-after c =
    let pushes = pushed c in
    let spares : length c.push_reserved.new.self.items ≡ c.args.self.now.spare + 1 = omega (arith, pushes, ap (λ s. s.spare) c.self.view_is) in
    λ i. record { chains = written c i; spare = spares i }

pub returns-clause-changes : goal.returns-clause-changes
returns-clause-changes c =
    let now = c.args.self.now in
    changes-set now _ c.args.frame (key c.args.leaf) _ (without_leaf c.args.leaf (chain_of now c.args.frame)) c.requires.frame (written c)
    (leaf_at-without_leaf c.args.leaf (chain_of now c.args.frame)) (leaf_at-without_other c.args.leaf (chain_of now c.args.frame))
