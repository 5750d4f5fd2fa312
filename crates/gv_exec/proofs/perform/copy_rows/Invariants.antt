use Rattle.std.proofs.Common.{◌≡◌}
use Rattle.std.specs.Prelude.{All}
use Rattle.gv_blit.specs.Short.{IsShort}
use Rattle.gv_cmd.specs.Rows.{rows}
use Rattle.gv_cmd.specs.Effect.{rows_copied}
use Rattle.gv_exec.proofs.perform.copy_rows.Given as goal

abbrev pub invariant-loop-row : goal.invariant-loop-row
invariant-loop-row g l = record {
  left : rows_copied g.S.SpaceMeaning.operations (g.S.SpaceMeaning.state l.space) l.row-iterator
      ≡ rows_copied g.S.SpaceMeaning.operations (g.S.SpaceMeaning.state l.initial.space) (rows l.blit);
  short : All IsShort l.row-iterator;
  loans : g.S.SpaceMeaning.loans l.space ≡ g.S.SpaceMeaning.loans l.initial.space;
}
