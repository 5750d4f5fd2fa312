use Rattle.std.proofs.Common.{ap, ◌∙◌, not, eqb}
use Rattle.gv_gtt.proofs.Words.{roles-table}
use Rattle.gv_gtt.proofs.gtt.Gtt.has_role.Goals as goal

pub returns : goal.returns
returns c = ap (λ n. not (eqb n 0)) c.roles.ensures ∙ roles-table c.args.self.now.tables c.args.frame
