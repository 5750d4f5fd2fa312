use Rattle.std.proofs.Common.{◌≡◌, Some, None, sym, ap, ◌∙◌, ⊎_elim}
use Rattle.std.proofs.lemmas.Bool.{cases_eq}
use Rattle.gv_sppgtt.specs.Sound.{page_of_node, parents_of_node, parents_in}
use Rattle.gv_sppgtt.proofs.NodePairs.{key-absent, key-parents, removed-other, removed-here}
use Rattle.gv_sppgtt.proofs.tables.Tables.unboard.Goals as goal

pub unreachable-requires : goal.unreachable-requires
unreachable-requires c =
    let p = c.requires.there.0 in
    let clash : Some p ≡ None = sym c.requires.there.1 ∙ key-absent c.args.self.now.nodes c.args.level c.args.frame c.in_default.ensures.none in
    cc

pub remove-requires-clause-none : goal.remove-requires-clause-none
remove-requires-clause-none c = key-parents c.args.self.now.nodes c.args.level c.args.frame c.in-Some.key c.requires.nodes c.in-Some.ensures.found ∙ c.requires.none

pub returns-clause-here : goal.returns-clause-here
returns-clause-here c = ap page_of_node (removed-here c.args.self.now.nodes c.remove.new.self c.in-Some.key c.args.level c.args.frame c.requires.nodes c.remove.ensures.nodes c.in-Some.ensures.found c.remove.ensures.changes)

pub returns-clause-others : goal.returns-clause-others
returns-clause-others c k f apart = ap page_of_node (removed-other c.args.self.now.nodes c.remove.new.self c.in-Some.key c.args.level c.args.frame c.requires.nodes c.remove.ensures.nodes c.in-Some.ensures.found c.remove.ensures.changes k f apart)

pub returns-clause-parents : goal.returns-clause-parents
returns-clause-parents c k f =
    let old = c.args.self.now.nodes in
    let new = c.remove.new.self in
    let other = λ (apart : k ≡ c.args.level → f ≡ c.args.frame → ⊥). ap parents_of_node (removed-other old new c.in-Some.key c.args.level c.args.frame c.requires.nodes c.remove.ensures.nodes c.in-Some.ensures.found c.remove.ensures.changes k f apart) in
    let here : parents_in new c.args.level c.args.frame ≡ parents_in old c.args.level c.args.frame =
    ap parents_of_node (removed-here old new c.in-Some.key c.args.level c.args.frame c.requires.nodes c.remove.ensures.nodes c.in-Some.ensures.found c.remove.ensures.changes) ∙ sym c.requires.none in
    ⊎_elim (λ a. ⊎_elim (λ b. ap (λ x. parents_in new x f) a ∙ ap (parents_in new c.args.level) b ∙ here ∙ sym (ap (λ x. parents_in old x f) a ∙ ap (parents_in old c.args.level) b)) (λ b. other (λ _ e. b e)) (cases_eq f c.args.frame)) (λ a. other (λ e _. a e)) (cases_eq k c.args.level)
