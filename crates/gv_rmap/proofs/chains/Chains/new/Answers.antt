use Rattle.std.proofs.Common.{List, get_or, sym, subst, arith}
use Rattle.std.proofs.lemmas.Grind.{common_steps}
use Rattle.gv_rmap.specs.declared.tree.Tree.{Tree, Empty}
use Rattle.gv_rmap.specs.Tree.{IsBalanced}
use Rattle.gv_rmap.proofs.Frames.{balanced-new}
use Rattle.gv_rmap.proofs.chains.Chains.new.Goals as goal

pub invariant_of-result : goal.invariant_of-result
invariant_of-result c = record {
  order = grind (arith, common_steps);
  balanced = λ f. subst (λ (trees : List Tree). IsBalanced (get_or trees f Empty)) (sym c.loop.invariant.empty) (balanced-new c.loop.counter f);
  frames = grind (arith, common_steps);
  nodes = grind (arith, common_steps);
  room = grind (arith, common_steps);
}
