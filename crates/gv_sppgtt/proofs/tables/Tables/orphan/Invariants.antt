use Rattle.std.proofs.Common.{ℕ, ◌≡◌}
use Rattle.gv_nodes.specs.NodeMap.{AreNodes}
use Rattle.gv_sppgtt.specs.State.{pages_of, parents_of}
use Rattle.gv_sppgtt.proofs.tables.Tables.orphan.Given as goal

abbrev pub decreases-loop-self : goal.decreases-loop-self
decreases-loop-self l = parents_of l.self l.level l.frame

-- nothing but its parents has changed
abbrev pub invariant-loop-self : goal.invariant-loop-self
invariant-loop-self l = record {
  pages : (k f : ℕ) → pages_of l.self k f ≡ pages_of l.initial.self k f;
  others : (k f : ℕ) → (k ≡ l.level → f ≡ l.frame → ⊥) → parents_of l.self k f ≡ parents_of l.initial.self k f;
  nodes : AreNodes l.self.nodes;
  frames : l.self.nodes.frames ≡ l.initial.self.nodes.frames;
  owners : l.self.owners ≡ l.initial.self.owners;
  chains : l.self.chains ≡ l.initial.self.chains;
  told : l.self.told ≡ l.initial.self.told;
  guest : l.self.guest ≡ l.initial.self.guest;
  touched : l.self.touched ≡ l.initial.self.touched;
}
