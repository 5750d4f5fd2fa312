use Rattle.std.proofs.Common.{◌||◌, ◌∙◌, ap}
use Rattle.gv_gpu.specs.Physical.{page_of, page_strays}
use Rattle.gv_engine.specs.Soft.{loaded_of}
use Rattle.gv_engine.specs.Walk.{tables_stray}
use Rattle.gv_engine.specs.Whole.{whole}
use Rattle.gv_engine.specs.declared.walk.Walk.{Walk}
use Rattle.gv_engine.proofs.WalkLemmas.{read_page-walk, read_strays-walk}
use Rattle.gv_engine.proofs.soft.SoftGpu.reading.Goals as goal

pub returns-clause-page : goal.returns-clause-page
returns-clause-page c =
    let d = whole c.args.self.now in
    c.page_of-page.ensures.value ∙ ap (λ (w : Walk). page_of d w.entry) c.walk-walk.ensures ∙ read_page-walk d c.args.context.now.root c.args.global c.args.at

pub returns-clause-strayed : goal.returns-clause-strayed
returns-clause-strayed c =
    let d = whole c.args.self.now in
    let owner = c.args.context.now.owner.0 in
    c.either-strayed.ensures
    ∙ ap (λ b. b || c.page_strays.result) c.tables_stray-tables.ensures
    ∙ ap (λ b. tables_stray d owner c.walk-walk.result || b) (c.page_strays.ensures ∙ ap (page_strays d owner) c.page_of-page.ensures.value)
    ∙ ap (λ (w : Walk). tables_stray d owner w || page_strays d owner (page_of d w.entry)) c.walk-walk.ensures
    ∙ read_strays-walk d (loaded_of c.args.context.now) c.args.global c.args.at
