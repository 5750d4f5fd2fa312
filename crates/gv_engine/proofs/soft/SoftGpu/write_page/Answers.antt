use Rattle.std.proofs.Common.{◌∙◌, ap, true}
use Rattle.gv_engine.specs.Walk.{writable_page}
use Rattle.gv_engine.specs.Whole.{whole}
use Rattle.gv_engine.specs.declared.walk.Walk.{Walk}
use Rattle.gv_engine.proofs.WalkLemmas.{write_page-walk}
use Rattle.gv_engine.proofs.soft.SoftGpu.write_page.Goals as goal

pub returns-clause-value : goal.returns-clause-value
returns-clause-value c = λ root.
    let d = whole c.args.self.now in
    c.writable_page.ensures.value ∙ ap (λ (w : Walk). writable_page d w.entry) (c.global_walk.ensures root) ∙ write_page-walk d root true c.args.at
