-- New numbers are not live, so that the pages stay as they were.
use Rattle.std.proofs.Common.{◌≡◌, ◌∙◌, ◌+◌, ◌-◌, ℕ, List, Bool, None, Option, length, ap, arith}
use Rattle.std.proofs.lemmas.Result.{on_ok_weaker, on_err_weaker}
use Rattle.std.proofs.lemmas.List.Sums.{count_by-le-length}
use Rattle.std.specs.Prelude.{count_by}
use Rattle.std.specs.Option.{is_some}
use Rattle.gv_arena.specs.ArenaHolds.{spare_of}
use Rattle.gv_arena.specs.Contents.{padded}
use Rattle.gv_arena.proofs.Added.{added_length, added_bounds, added_shown}
use Rattle.gv_arena.proofs.Longer.{longer_le}
use Rattle.gv_arena.proofs.Shown.{shown_longer}
use Rattle.gv_arena.proofs.Fields.{pages_are, spare_is, all_are, live_by}
use Rattle.gv_arena.proofs.OnAny.{on_err}
use Rattle.gv_arena.proofs.arena.Arena.grow.Goals as goal

pub invariant_of-self : goal.invariant_of-self
invariant_of-self c = record {
  enough = omega (arith, longer_le c.self.inside.store c.grow.new.self c.grow.ensures.longer, c.self.invariant.enough);
  within = c.grow.ensures.within;
}

pub returns-in_err-grow-clause-pages : goal.returns-in_err-grow-clause-pages
returns-in_err-grow-clause-pages c =
    ap (padded None) (shown_longer c.self.inside.numbers c.self.inside.store c.grow.new.self c.self.invariant.enough c.grow.ensures.longer) ∙ pages_are c.self.inside c.args.self.now c.self.invariant c.self.view_is

pub returns-in_err-grow-clause-err : goal.returns-in_err-grow-clause-err
returns-in_err-grow-clause-err c =
    let pages = ap (padded None) (shown_longer c.self.inside.numbers c.self.inside.store c.grow.new.self c.self.invariant.enough c.grow.ensures.longer) ∙ pages_are c.self.inside c.args.self.now c.self.invariant c.self.view_is in
    let spare = spare_is c.self.inside c.args.self.now c.self.invariant c.self.view_is in
    on_err c.from_residual.result (λ i. record { pages = pages i; spare = spare i })

pub overflow_sub-total : goal.overflow_sub-total
overflow_sub-total c = omega (arith, c.total.ensures, all_are c.self.inside c.args.self.now c.self.invariant c.self.view_is, c.requires.0)

pub invariant_of-self-2 : goal.invariant_of-self-2
invariant_of-self-2 c =
    let a = c.self.inside in
    let count = all_are a c.args.self.now c.self.invariant c.self.view_is in
    let bounds = added_bounds a.numbers c.add.new.self (c.args.total - c.total.result) c.add.result c.add.ensures.ok c.add.ensures.err in
    record {
      enough = omega (arith, bounds.1, count, c.total.ensures, c.requires.0, c.in_ok-grow.ensures.ok);
      within = c.grow.ensures.within;
    }

pub returns-clause-pages : goal.returns-clause-pages
returns-clause-pages c =
    let a = c.self.inside in
    let count = all_are a c.args.self.now c.self.invariant c.self.view_is in
    added_shown a.numbers c.add.new.self (c.args.total - c.total.result) c.add.result c.add.ensures.ok c.add.ensures.err c.grow.new.self
    (omega (arith, count, c.total.ensures, c.requires.0, c.in_ok-grow.ensures.ok)) c.grow.ensures.within
    ∙ ap (padded None) (shown_longer a.numbers a.store c.grow.new.self c.self.invariant.enough c.grow.ensures.longer) ∙ pages_are a c.args.self.now c.self.invariant c.self.view_is

pub returns-clause-spare : goal.returns-clause-spare
returns-clause-spare c =
    let a = c.self.inside in
    let new = c.add.new.self in
    let count = all_are a c.args.self.now c.self.invariant c.self.view_is in
    let holds = invariant_of-self-2 c in
    on_ok_weaker c.add.result (λ (long : length new ≡ length a.numbers + (c.args.total - c.total.result)).
    omega (arith, long, c.total.ensures, count, c.requires.0, live_by new c.grow.new.self holds.enough, count_by-le-length (λ (b : Bool). b) new))
    (added_length a.numbers new (c.args.total - c.total.result) c.add.result c.add.ensures.ok)

pub returns-clause-more : goal.returns-clause-more
returns-clause-more c =
    let a = c.self.inside in
    let new = c.add.new.self in
    let count = all_are a c.args.self.now c.self.invariant c.self.view_is in
    let bounds = added_bounds a.numbers new (c.args.total - c.total.result) c.add.result c.add.ensures.ok c.add.ensures.err in
    let holds = invariant_of-self-2 c in
    omega (arith, bounds.0, count, live_by new c.grow.new.self holds.enough, count_by-le-length (λ (b : Bool). b) new, ap (λ (ps : List (Option (List ℕ))). count_by is_some ps) (returns-clause-pages c))

pub returns-clause-err : goal.returns-clause-err
returns-clause-err c =
    let pages = returns-clause-pages c in
    let had = spare_is c.self.inside c.args.self.now c.self.invariant c.self.view_is in
    on_err_weaker c.add.result (λ (same : c.add.new.self ≡ c.self.inside.numbers).
    let spare = ap spare_of same ∙ had in λ i. record { pages = pages i; spare = spare i })
    c.add.ensures.err
