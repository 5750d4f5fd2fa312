use Rattle.std.proofs.Common.{◌∙◌, ap, sym}
use Rattle.gv_engine.specs.Walk.{walk_of}
use Rattle.gv_engine.specs.Whole.{whole}
use Rattle.gv_engine.proofs.soft.SoftGpu.walk.Goals as goal

pub returns-then-global : goal.returns-then-global
returns-then-global c =
    c.global_walk.ensures c.args.root ∙ ap (λ global. walk_of (whole c.args.self.now) c.args.root global c.args.at) (sym c.if-global.true)
