use Rattle.std.proofs.Common.{◌+◌, ◌∷◌, sym, ap, ◌∙◌, rules}
use Rattle.gv_blit.specs.Left.{rows_left}
use Rattle.gv_blit.proofs.RowSteps.{rows_left-more}
use Rattle.gv_blit.proofs.left.RowsIterator.next.Goals as goal

pub returns-clause-steps : goal.returns-clause-steps
returns-clause-steps c =
    sym c.self.view_is
    ∙ rows_left-more c.self.inside.blit c.self.inside.y c.if-self.false c.if-self-2.false
    ∙ ap (λ r. r ∷ rows_left c.self.inside.blit (c.self.inside.y + 1)) (sym c.row-next.ensures)

pub returns-clause-goes : goal.returns-clause-goes
returns-clause-goes c = let e = returns-clause-steps c in search rules
