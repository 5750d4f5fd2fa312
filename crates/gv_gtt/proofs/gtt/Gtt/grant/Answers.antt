use Rattle.std.proofs.Common.{◌∙◌}
use Rattle.gv_gtt.proofs.Unguarded.{grant-open}
use Rattle.gv_gtt.proofs.Standing.{grants-same}
use Rattle.gv_gtt.proofs.gtt.Gtt.grant.Goals as goal

pub returns-clause-grant : goal.returns-clause-grant
returns-clause-grant c = λ d p s. c.granted.ensures.grant ∙ grants-same d c.args.self.now p s c.args.page

pub returns-clause-open : goal.returns-clause-open
returns-clause-open c = grant-open c.args.self.now c.args.page c.granted.result c.granted.ensures.grant
