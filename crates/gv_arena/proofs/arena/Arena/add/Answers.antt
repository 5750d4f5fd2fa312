-- Where no page is to spare, all numbers are live, and there are fewer than the limit.
use Rattle.std.proofs.Common.{ℕ, List, Option, arith, ap}
use Rattle.std.specs.Prelude.{count_by}
use Rattle.std.specs.Option.{is_some}
use Rattle.gv_arena.specs.Contents.{Contents}
use Rattle.gv_arena.proofs.Fields.{all_are, live_are}
use Rattle.gv_arena.proofs.arena.Arena.add.Goals as goal
use Rattle.gv_arena.proofs.arena.Arena.add.Goals.{then-live-total+in_ok-grow, else-live-total}

pub grow-requires : goal.grow-requires
grow-requires c =
    let all = all_are c.self.inside c.args.self.now c.self.invariant c.self.view_is in
    let count = live_are c.self.inside c.args.self.now c.self.invariant c.self.view_is in
    (omega (arith, all, count, c.live-live.ensures.live, c.total.ensures, c.if-live-total.true, c.min.ensures, c.requires), omega (arith, c.min.ensures))

pub give-requires : goal.give-requires
give-requires c =
    let all = all_are c.self.inside c.args.self.now c.self.invariant c.self.view_is in
    let count = live_are c.self.inside c.args.self.now c.self.invariant c.self.view_is in
    elim c.if-live-total.branch [
      | then-live-total+in_ok-grow w ↦ omega (arith, ap (λ (n : Contents). n.spare) w.self-is, ap (λ (ps : List (Option (List ℕ))). count_by is_some ps) w.grow.ensures.pages, w.in_ok-grow.ensures.spare, w.min.ensures, c.requires, c.live-live.ensures.live, count)
      | else-live-total w ↦ omega (arith, ap (λ (n : Contents). n.spare) w.self-is, all, count, c.live-live.ensures.live, c.live-live.ensures.within, c.total.ensures, w.if-live-total.false)
    ]
