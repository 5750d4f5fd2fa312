use Rattle.std.proofs.Common.{◌∙◌, sym, arith}
use Rattle.gv_arena.proofs.Fields.{mark_at, number_within}
use Rattle.gv_arena.proofs.arena.Arena.is_live.Goals as goal

pub returns-clause-live : goal.returns-clause-live
returns-clause-live c = c.is_live.ensures ∙ mark_at c.self.inside c.args.self.now c.self.invariant c.self.view_is c.args.page

pub returns-clause-within : goal.returns-clause-within
returns-clause-within c is =
    let some = sym (returns-clause-live c) ∙ is in
    omega (arith, number_within c.self.inside c.args.self.now c.self.invariant c.self.view_is c.args.page some, c.self.invariant.enough, c.self.invariant.within)
