use Rattle.std.proofs.Common.{◌/◌, sym, ◌∙◌, arith}
use Rattle.gv_gtt.proofs.Words.{guarded-table, outside-free}
use Rattle.gv_gtt.proofs.gtt.Gtt.is_in_table.Goals as goal

pub returns-then-frame-from-clause-table : goal.returns-then-frame-from-clause-table
returns-then-frame-from-clause-table c = λ d s. c.has_role.ensures ∙ sym (guarded-table d c.args.self.now s (c.args.at / 4096))

pub returns-else-frame-from-clause-table : goal.returns-else-frame-from-clause-table
returns-else-frame-from-clause-table c = λ d s. sym (outside-free d c.args.self.now s (c.args.at / 4096) (omega arith))
