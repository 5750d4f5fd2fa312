use Rattle.std.proofs.Common.{◌≡◌, ℕ, ◌+◌, ◌-◌, [], length, map, set, get_or, sum_by, length-set, ap, sym, subst, ◌∙◌, arith}
use Rattle.std.proofs.lemmas.Grind.{common_steps}
use Rattle.gv_rmap.specs.Leaves.{key, with_leaf, IsInOrder}
use Rattle.gv_rmap.specs.Chains.{chain_of}
use Rattle.gv_rmap.specs.Tree.{leaves}
use Rattle.gv_rmap.proofs.Order.{order_with, length-with_leaf, leaf_at-with_leaf, leaf_at-with_other}
use Rattle.gv_rmap.proofs.Frames.{frame_within, balanced-written, chain-of_tree, chains-set, order-set, count-set, changes-set}
use Rattle.gv_rmap.proofs.chains.Chains.link.Goals as goal

order : (c : goal.After-self-1) (f : ℕ) → IsInOrder (chain_of c.args.self.now f)
order c f = subst (λ s. IsInOrder (chain_of s f)) c.self.view_is (c.self.invariant.order f)

chain : (c : goal.After-self-1) → leaves c.index_mut.result.now ≡ chain_of c.args.self.now c.args.frame
chain c = chain-of_tree c.self.inside.chains.items c.args.self.now.chains c.args.frame c.index_mut.result.now (ap (λ s. s.chains) c.self.view_is) c.requires.frame c.index_mut.ensures.value

written : (c : goal.After-self-1) → map leaves (set c.self.inside.chains.items c.args.frame c.insert.new.self) ≡ set c.args.self.now.chains c.args.frame (with_leaf c.args.leaf (chain_of c.args.self.now c.args.frame))
written c =
    let now = c.args.self.now in
    chains-set c.self.inside.chains.items now.chains c.args.frame c.insert.new.self (with_leaf c.args.leaf (chain_of now c.args.frame)) (ap (λ s. s.chains) c.self.view_is)
    (c.insert.ensures.leaves (subst IsInOrder (sym (chain c)) (order c c.args.frame)) ∙ ap (with_leaf c.args.leaf) (chain c))

popped : (c : goal.After-self-1) → length c.pop.new.self.items + 1 ≡ length c.self.inside.spare.items
popped c = grind (arith, common_steps)

pub invariant_of-self : goal.invariant_of-self
invariant_of-self c =
    let now = c.args.self.now in
    let seen : map leaves c.self.inside.chains.items ≡ now.chains = ap (λ s. s.chains) c.self.view_is in
    let pops = popped c in
    let counted = count-set now.chains c.args.frame (with_leaf c.args.leaf (chain_of now c.args.frame)) c.requires.frame in
    let longer = length-with_leaf c.args.leaf (chain_of now c.args.frame) in
    record {
      order = λ f. subst (λ l. IsInOrder (get_or l f [])) (sym (written c))
          (order-set now.chains c.args.frame (with_leaf c.args.leaf (chain_of now c.args.frame)) c.requires.frame (order c) (order_with c.args.leaf (chain_of now c.args.frame) (order c c.args.frame) c.requires.absent) f);
      balanced = balanced-written c.self.inside.chains.items c.args.frame c.index_mut.result.now c.insert.new.self (frame_within c.self.inside.chains.items now.chains c.args.frame seen c.requires.frame) c.index_mut.ensures.value c.self.invariant.balanced
          (omega (arith, c.self.invariant.nodes, c.self.invariant.room, c.self.inside.spare.small)) (λ balanced small. (c.insert.ensures.balanced balanced small).balanced);
      frames = rw length-set c.self.invariant.frames;
      nodes = ap (λ l. sum_by length l + length c.pop.new.self.items) (written c) ∙ omega (arith, counted, longer, pops, ap (sum_by length) seen, c.self.invariant.nodes);
      room = rw c.pop.ensures.capacity c.self.invariant.room;
    }

pub returns-clause-after : goal.returns-clause-after
returns-clause-after c =
    let pops = popped c in
    let spares : length c.pop.new.self.items ≡ c.args.self.now.spare - 1 = omega (arith, pops, ap (λ s. s.spare) c.self.view_is) in
    λ i. record { chains = written c i; spare = spares i }

pub returns-clause-changes : goal.returns-clause-changes
returns-clause-changes c =
    let now = c.args.self.now in
    changes-set now _ c.args.frame (key c.args.leaf) _ (with_leaf c.args.leaf (chain_of now c.args.frame)) c.requires.frame (written c)
    (leaf_at-with_leaf c.args.leaf (chain_of now c.args.frame) c.requires.absent) (leaf_at-with_other c.args.leaf (chain_of now c.args.frame))
