use Rattle.std.proofs.Common.{◌≡◌, ◌⊎◌, ◌||◌, ◌∙◌, ◌+◌, ap, subst, get_or, false}
use Rattle.gv_gpu.specs.Physical.{written_strays}
use Rattle.gv_engine.specs.Running.{stepping}
use Rattle.gv_engine.specs.Soft.{loaded_of}
use Rattle.gv_engine.specs.Walk.{writable_page, tables_stray, names}
use Rattle.gv_engine.specs.Whole.{whole}
use Rattle.gv_engine.specs.declared.walk.Walk.{Walk}
use Rattle.gv_engine.proofs.PutLemmas.{span-put}
use Rattle.gv_engine.proofs.WalkLemmas.{write_page-walk, write_strays-walk}
use Rattle.gv_engine.proofs.soft.SoftGpu.write_span.Goals as goal

pub returns-clause-left : goal.returns-clause-left
returns-clause-left c = λ engine.
    let d = whole c.args.self.now in
    let l = loaded_of c.args.context.now in
    let at = c.args.at in
    let walk = c.walk-walk.ensures in
    let page = c.writing_by-reached.ensures.page ∙ ap (λ (w : Walk). writable_page d w.entry) walk ∙ write_page-walk d l.root false at in
    let strays = c.writing_by-reached.ensures.strayed ∙ ap (λ (w : Walk). tables_stray d l.owner w || written_strays d l (writable_page d w.entry)) walk ∙ write_strays-walk d l false at in
    let first = subst (λ (w : Walk). (c.storable-count.result ≡ 1) ⊎ (names w c.writing_by-reached.result.page ≡ false)) walk c.storable-count.ensures.apart in
    span-put (stepping d engine c.args.context.now c.args.strayed) at (λ k. get_or c.args.self.now.row (c.args.from + k) 0) c.writing_by-reached.result.page page
    c.storable-count.result (whole c.put_in.new.self) c.either.result c.storable-count.ensures.many.0 c.storable-count.ensures.page first
    c.put_in.ensures.left (c.either.ensures ∙ ap (λ b. c.args.strayed || b) strays)
