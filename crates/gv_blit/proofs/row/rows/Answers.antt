use Rattle.std.proofs.Common.{sym, subst}
use Rattle.std.specs.Prelude.{All}
use Rattle.gv_blit.specs.Short.{IsShort}
use Rattle.gv_blit.proofs.RowSteps.{rows-short}
use Rattle.gv_blit.proofs.row.rows.Goals as goal

pub returns-clause-short : goal.returns-clause-short
returns-clause-short c = subst (All IsShort) (sym c.new.ensures) (rows-short c.args.blit.now c.requires)
