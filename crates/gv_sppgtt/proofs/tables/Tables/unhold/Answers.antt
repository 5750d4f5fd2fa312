use Rattle.std.proofs.Common.{ℕ, ◌≡◌, ◌-◌, ◌≤◌, Some, sym, ◌∙◌, refl, arith, subst, Bool, true, false, Option, MatchOption, ⊎_elim}
use Rattle.std.proofs.lemmas.Bool.{cases_lt, false≢true}
use Rattle.std.specs.Bool.{then_some}
use Rattle.gv_sppgtt.specs.Sound.{pages_in, parents_in}
use Rattle.gv_sppgtt.proofs.NodePairs.{key-absent, key-parents, none-parents, set-there, set-here, set-parents, set-pages, set-under}
use Rattle.gv_nodes.specs.NodeMap.{parents_of}
use Rattle.gv_sppgtt.proofs.tables.Tables.unhold.Goals as goal

pub unreachable-requires : goal.unreachable-requires
unreachable-requires c =
    let zero = none-parents c.args.self.now.nodes c.args.level c.args.frame (key-absent c.args.self.now.nodes c.args.level c.args.frame c.in_default.ensures.none) in
    let some = c.requires.some in
    omega arith

pub drop_parent-last-requires-clause-some : goal.drop_parent-last-requires-clause-some
drop_parent-last-requires-clause-some c =
    subst (λ n. 1 ≤ n) (sym (key-parents c.args.self.now.nodes c.args.level c.args.frame c.in-Some.key c.requires.nodes c.in-Some.ensures.found)) c.requires.some

pub returns-clause-pages : goal.returns-clause-pages
returns-clause-pages c = set-pages c.args.self.now.nodes c.drop_parent-last.new.self c.in-Some.key c.args.level c.args.frame (parents_of c.args.self.now.nodes c.in-Some.key - 1) c.node-page.result c.requires.nodes c.drop_parent-last.ensures.nodes c.in-Some.ensures.found c.drop_parent-last.ensures.changes c.node-page.ensures.node

pub returns-clause-here : goal.returns-clause-here
returns-clause-here c =
    let here = set-here c.args.self.now.nodes c.drop_parent-last.new.self c.in-Some.key c.args.level c.args.frame (parents_of c.args.self.now.nodes c.in-Some.key - 1) c.node-page.result c.requires.nodes c.drop_parent-last.ensures.nodes c.in-Some.ensures.found c.drop_parent-last.ensures.changes c.node-page.ensures.node in
    let under = key-parents c.args.self.now.nodes c.args.level c.args.frame c.in-Some.key c.requires.nodes c.in-Some.ensures.found in
    let some = c.requires.some in
    omega arith

pub returns-clause-others : goal.returns-clause-others
returns-clause-others c = set-parents c.args.self.now.nodes c.drop_parent-last.new.self c.in-Some.key c.args.level c.args.frame (parents_of c.args.self.now.nodes c.in-Some.key - 1) c.node-page.result c.requires.nodes c.drop_parent-last.ensures.nodes c.in-Some.ensures.found c.drop_parent-last.ensures.changes c.node-page.ensures.node

last_from : (b : Bool) (n page : ℕ) (there : Option ℕ) (r : Option ℕ) → r ≡ then_some b page → (b ≡ true → n ≡ 0) → (n ≡ 0 → b ≡ true) → there ≡ Some page → MatchOption r (1 ≤ n) (λ p. (n ≡ 0) × (there ≡ Some p))
last_from true n page there r is zero last at = rw is (zero refl, at)
last_from false n page there r is zero last at = rw is (⊎_elim (λ none. let z : n ≡ 0 = omega arith in let clash = last z in absurd (false≢true clash)) (λ some. some) (cases_lt n 1))

pub returns-clause-last : goal.returns-clause-last
returns-clause-last c =
    let old = c.args.self.now.nodes in
    let new = c.drop_parent-last.new.self in
    let p = parents_of old c.in-Some.key - 1 in
    let here = set-here old new c.in-Some.key c.args.level c.args.frame p c.node-page.result c.requires.nodes c.drop_parent-last.ensures.nodes c.in-Some.ensures.found c.drop_parent-last.ensures.changes c.node-page.ensures.node in
    let under = set-under old new c.in-Some.key c.args.level c.args.frame p c.node-page.result c.requires.nodes c.drop_parent-last.ensures.nodes c.in-Some.ensures.found c.drop_parent-last.ensures.changes c.node-page.ensures.node in
    let there = set-there old new c.in-Some.key c.args.level c.args.frame p c.node-page.result c.requires.nodes c.drop_parent-last.ensures.nodes c.in-Some.ensures.found c.drop_parent-last.ensures.changes c.node-page.ensures.node in
    let last = c.drop_parent-last.ensures.last in
    last_from c.drop_parent-last.result (parents_in new c.args.level c.args.frame) c.node-page.result.page (pages_in new c.args.level c.args.frame) c.then_some.result c.then_some.ensures
    (λ t. here ∙ sym under ∙ last.0 t) (λ z. last.1 (under ∙ sym here ∙ z)) there
