use Rattle.std.proofs.Common.{◌||◌, ◌∙◌, ap}
use Rattle.gv_gpu.specs.Physical.{written_strays}
use Rattle.gv_engine.specs.Soft.{loaded_of}
use Rattle.gv_engine.specs.Walk.{writable_page, tables_stray}
use Rattle.gv_engine.specs.Whole.{whole}
use Rattle.gv_engine.specs.declared.walk.Walk.{Walk}
use Rattle.gv_engine.proofs.WalkLemmas.{write_page-walk, write_strays-walk}
use Rattle.gv_engine.proofs.soft.SoftGpu.writing.Goals as goal

pub returns-clause-page : goal.returns-clause-page
returns-clause-page c =
    let d = whole c.args.self.now in
    c.writing_by.ensures.page ∙ ap (λ (w : Walk). writable_page d w.entry) c.walk-walk.ensures ∙ write_page-walk d c.args.context.now.root c.args.global c.args.at

pub returns-clause-strayed : goal.returns-clause-strayed
returns-clause-strayed c =
    let d = whole c.args.self.now in
    let l = loaded_of c.args.context.now in
    c.writing_by.ensures.strayed
    ∙ ap (λ (w : Walk). tables_stray d l.owner w || written_strays d l (writable_page d w.entry)) c.walk-walk.ensures
    ∙ write_strays-walk d l c.args.global c.args.at
