use Rattle.std.proofs.Common.{◌∙◌, Some, sym, ap}
use Rattle.gv_arena.proofs.Fields.{live_page, page_within}
use Rattle.gv_arena.proofs.arena.Arena.words.Goals as goal

pub page-requires : goal.page-requires
page-requires c = page_within c.self.inside c.args.self.now c.self.invariant c.self.view_is c.args.page c.requires

pub returns-clause-words : goal.returns-clause-words
returns-clause-words c = live_page c.self.inside c.args.self.now c.self.invariant c.self.view_is c.args.page c.requires ∙ ap Some (sym c.page.ensures)
