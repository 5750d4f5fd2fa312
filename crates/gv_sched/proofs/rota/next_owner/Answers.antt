use Rattle.std.proofs.Common.{◌≡◌, ◌+◌, ◌%◌, length, Some, None, sym, ap, subst, ◌∙◌, rules, tests, position}
use Rattle.std.specs.Option.{option_map_or}
use Rattle.std.proofs.lemmas.Iterator.{YieldsList-from_slice, YieldsList-from_take}
use Rattle.std.proofs.lemmas.Iterator.Adapters.{YieldsList-from_skip}
use Rattle.std.proofs.lemmas.Iterator.Consumers.{YieldsList-from_chain}
use Rattle.std.proofs.lemmas.Iterator.Search.{position_from_yields_List}
use Rattle.gv_sched.specs.Rota.{work_of_others, IsNextOwner}
use Rattle.gv_sched.proofs.Order.{next_owner-first}
use Rattle.gv_sched.proofs.rota.next_owner.Goals as goal

pub returns-in-Some-clause-next : goal.returns-in-Some-clause-next
returns-in-Some-clause-next c =
    let work = c.args.has_work.now in
    let owner = c.args.owner in
    let found : Some c.in-Some.between ≡ position (λ w. w) (work_of_others work owner) =
    sym c.in-Some.is ∙ position_from_yields_List (λ w. w) _ _ c.position.result c.position.ensures.ran
    (YieldsList-from_chain (YieldsList-from_skip (owner + 1) (YieldsList-from_slice work (cc)) (cc)) (YieldsList-from_take owner (YieldsList-from_slice work (cc)) (cc)) (cc) (cc)) (λ x b q k. search (rules, tests)) in
    ap (λ o. option_map_or (λ between. (owner + 1 + between) % length work) o owner) found

pub returns-in-None-clause-next : goal.returns-in-None-clause-next
returns-in-None-clause-next c =
    let work = c.args.has_work.now in
    let owner = c.args.owner in
    let found : None ≡ position (λ w. w) (work_of_others work owner) =
    sym c.in-None.is ∙ position_from_yields_List (λ w. w) _ _ c.position.result c.position.ensures.ran
    (YieldsList-from_chain (YieldsList-from_skip (owner + 1) (YieldsList-from_slice work (cc)) (cc)) (YieldsList-from_take owner (YieldsList-from_slice work (cc)) (cc)) (cc) (cc)) (λ x b q k. search (rules, tests)) in
    ap (λ o. option_map_or (λ between. (owner + 1 + between) % length work) o owner) found

pub returns-in-Some-clause-first : goal.returns-in-Some-clause-first
returns-in-Some-clause-first c =
    subst (IsNextOwner c.args.has_work.now c.args.owner) (sym (returns-in-Some-clause-next c)) (next_owner-first c.args.has_work.now c.args.owner c.requires.there)

pub returns-in-None-clause-first : goal.returns-in-None-clause-first
returns-in-None-clause-first c =
    subst (IsNextOwner c.args.has_work.now c.args.owner) (sym (returns-in-None-clause-next c)) (next_owner-first c.args.has_work.now c.args.owner c.requires.there)
