-- The page's number is not live, and can be given.
use Rattle.std.proofs.Common.{◌∙◌, ◌+◌, Bool, List, false, None, length, ap, arith, length-set}
use Rattle.gv_arena.specs.ArenaHolds.{spare_of, shown}
use Rattle.gv_arena.specs.Contents.{padded}
use Rattle.gv_arena.proofs.Shown.{shown_taken}
use Rattle.gv_arena.proofs.Fields.{mark_at, pages_set, number_within, spare_back, spare_is}
use Rattle.gv_arena.proofs.arena.Arena.release.Goals as goal

pub take_back-requires : goal.take_back-requires
take_back-requires c = mark_at c.self.inside c.args.self.now c.self.invariant c.self.view_is c.args.page ∙ c.requires

pub invariant_of-self : goal.invariant_of-self
invariant_of-self c =
    let a = c.self.inside in
    record {
      enough = omega (arith, ap length c.take_back.ensures, length-set a.numbers c.args.page false, c.self.invariant.enough);
      within = c.self.invariant.within;
    }

pub returns : goal.returns
returns c =
    let a = c.self.inside in
    let now = c.args.self.now in
    let page = c.args.page in
    let named = number_within a now c.self.invariant c.self.view_is page c.requires in
    let mark = mark_at a now c.self.invariant c.self.view_is page ∙ c.requires in
    let pages = ap (λ (ms : List Bool). padded None (shown ms a.store)) c.take_back.ensures ∙ ap (padded None) (shown_taken a.numbers a.store page) ∙ pages_set a now c.self.invariant c.self.view_is page None named in
    let spare = ap spare_of c.take_back.ensures ∙ spare_back a.numbers page named mark ∙ ap (λ n. n + 1) (spare_is a now c.self.invariant c.self.view_is) in
    λ i. record { pages = pages i; spare = spare i }
