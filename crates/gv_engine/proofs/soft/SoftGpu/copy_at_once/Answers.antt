use Rattle.std.proofs.Common.{◌||◌, ◌∙◌, false, ap, sym}
use Rattle.gv_gpu.specs.Physical.{written_strays}
use Rattle.gv_engine.specs.Pages.{Held}
use Rattle.gv_engine.specs.Soft.{loaded_of, state_of}
use Rattle.gv_engine.specs.Walk.{writable_page, tables_stray, is_table}
use Rattle.gv_engine.specs.Whole.{whole}
use Rattle.gv_engine.specs.declared.walk.Walk.{Walk}
use Rattle.gv_engine.proofs.CopyLemmas.{copied-at-once}
use Rattle.gv_engine.proofs.WalkLemmas.{write_page-walk, write_strays-walk}
use Rattle.gv_engine.proofs.soft.SoftGpu.copy_at_once.Goals as goal

pub returns-clause-done : goal.returns-clause-done
returns-clause-done c = λ engine.
    let self = c.args.self.now in
    let d = whole self in
    let l = loaded_of c.args.context.now in
    let from = c.is_in_one_page.ensures c.if-not-is_in_one_page.false in
    let to = c.is_in_one_page-2.ensures c.if-not-is_in_one_page-2.false in
    let walk = c.walk-walk.ensures in
    let target = c.writing_by-target.ensures.page ∙ ap (λ (w : Walk). writable_page d w.entry) walk ∙ write_page-walk d l.root false c.args.to in
    let strays = c.writing_by-target.ensures.strayed ∙ ap (λ (w : Walk). tables_stray d l.owner w || written_strays d l (writable_page d w.entry)) walk ∙ write_strays-walk d l false c.args.to in
    let apart = sym (ap (λ (w : Walk). is_table w c.in_ok-to_page.to_page) walk) ∙ sym c.is_table.ensures ∙ c.if-is_table.false in
    copied-at-once d (state_of _ self.entries.items self.general self.contexts self.journal.items self.strays self.pokes self.spare) engine c.args.context.now
    c.args.strayed c.reading-source.result.strayed c.writing_by-target.result.strayed c.either-read.result c.either.result c.args.to c.args.from c.args.count c.in_ok-from_page.from_page c.in_ok-to_page.to_page
    from.0 from.1 to.1 (sym c.in_ok-from_page.was ∙ c.reading-source.ensures.page) (sym c.in_ok-to_page.was ∙ target) apart
    c.reading-source.ensures.strayed strays c.either-read.ensures c.either.ensures
    (ap (λ (h : Held). state_of h self.entries.items self.general self.contexts self.journal.items self.strays self.pokes self.spare) c.copy_row.ensures)
