use Rattle.std.proofs.Common.{◌∙◌}
use Rattle.gv_exec.proofs.RowLoops.{short-next, rows_filled-step}
use Rattle.gv_exec.proofs.perform.fill_rows.Goals as goal

pub loop-row-preserved : goal.loop-row-preserved
loop-row-preserved g c = record {
  left = rows_filled-step c.loop-row.row-iterator c.next.new.self c.in-Some.row c.in-Some.ensures.steps g.S.SpaceMeaning.operations _ _ c.args.blit.now c.fill_row.ensures.left ∙ c.loop-row.invariant.left;
  short = short-next c.loop-row.row-iterator c.next.new.self c.in-Some.row c.in-Some.ensures.steps c.loop-row.invariant.short;
  loans = c.fill_row.ensures.loans ∙ c.loop-row.invariant.loans;
}
