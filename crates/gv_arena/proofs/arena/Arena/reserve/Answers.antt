-- The numbers reach up to the live pages and those asked for.
use Rattle.std.proofs.Common.{◌≡◌, ℕ, ◌+◌, List, Option, arith, ap}
use Rattle.std.proofs.lemmas.Result.{on_ok_weaker}
use Rattle.std.specs.Prelude.{count_by}
use Rattle.std.specs.Option.{is_some}
use Rattle.gv_arena.specs.Contents.{live}
use Rattle.gv_arena.proofs.Fields.{all_are, live_are}
use Rattle.gv_arena.proofs.arena.Arena.reserve.Goals as goal

pub grow-requires : goal.grow-requires
grow-requires c =
    let all = all_are c.self.inside c.args.self.now c.self.invariant c.self.view_is in
    let count = live_are c.self.inside c.args.self.now c.self.invariant c.self.view_is in
    (omega (arith, all, count, c.live.ensures.live, c.total.ensures, c.if-total.false), omega (arith, count, c.live.ensures.live, c.requires))

pub returns-clause-spare : goal.returns-clause-spare
returns-clause-spare c =
    let count = live_are c.self.inside c.args.self.now c.self.invariant c.self.view_is in
    let same = ap (λ (ps : List (Option (List ℕ))). count_by is_some ps) c.grow.ensures.pages in
    on_ok_weaker c.grow.result (λ (now : live c.grow.new.self + c.grow.new.self.spare ≡ c.live.result + c.args.pages). omega (arith, now, count, same, c.live.ensures.live)) c.grow.ensures.spare
