use Rattle.std.proofs.Common.{◌∙◌, arith}
use Rattle.gv_gtt.proofs.Unguarded.{low-grant}
use Rattle.gv_gtt.proofs.gtt.Gtt.aperture_frame.Goals as goal

pub returns-then-page-lt65536-clause-grant : goal.returns-then-page-lt65536-clause-grant
returns-then-page-lt65536-clause-grant c = λ d p s. c.grant.ensures.grant d p s ∙ low-grant c.args.self.now.table.ranges c.args.page _ c.requires (omega arith)
