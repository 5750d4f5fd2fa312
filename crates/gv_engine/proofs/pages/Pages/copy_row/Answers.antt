use Rattle.std.proofs.Common.{ℕ, List, Some, ap, sym, ◌∙◌}
use Rattle.gv_arena.specs.Contents.{Contents, words_of, with_page}
use Rattle.gv_engine.specs.Pages.{held_by}
use Rattle.gv_engine.proofs.ByteLemmas.{row_copied-is}
use Rattle.gv_engine.proofs.PagesLemmas.{held-with_page}
use Rattle.gv_engine.proofs.pages.Pages.copy_row.Goals as goal

pub returns : goal.returns
returns c =
    let self = c.args.self.now in
    let to = c.args.to in
    let source = words_of self.arena c.args.from in
    let row = row_copied-is source (words_of self.arena to) c.args.from_byte c.args.to_byte c.copy_row.ensures.source c.copy_row.ensures.target c.args.count c.requires.from_within c.requires.to_within in
    ap (λ (a : Contents). held_by a self.labels.items) (c.copy_row.ensures.pages ∙ ap (λ (words : List ℕ). with_page self.arena to (Some words)) row)
    ∙ held-with_page self.arena self.labels.items to _ (sym (self.labelled to) ∙ c.requires.to)
