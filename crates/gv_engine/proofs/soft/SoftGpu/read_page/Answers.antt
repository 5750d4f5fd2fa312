use Rattle.std.proofs.Common.{◌∙◌, ap, true}
use Rattle.gv_gpu.specs.Physical.{page_of}
use Rattle.gv_engine.specs.Whole.{whole}
use Rattle.gv_engine.specs.declared.walk.Walk.{Walk}
use Rattle.gv_engine.proofs.WalkLemmas.{read_page-walk}
use Rattle.gv_engine.proofs.soft.SoftGpu.read_page.Goals as goal

pub returns : goal.returns
returns c = λ root.
    let d = whole c.args.self.now in
    c.page_of.ensures.value ∙ ap (λ (w : Walk). page_of d w.entry) (c.global_walk.ensures root) ∙ read_page-walk d root true c.args.at
