use Rattle.std.proofs.Common.{◌∙◌, ℕ, List, get_or, sym, ap}
use Rattle.gv_arena.proofs.Fields.{words_are, page_within}
use Rattle.gv_arena.proofs.arena.Arena.word.Goals as goal

pub word-requires-clause-page : goal.word-requires-clause-page
word-requires-clause-page c = page_within c.self.inside c.args.self.now c.self.invariant c.self.view_is c.args.page c.requires.live

pub returns : goal.returns
returns c = c.word.ensures ∙ ap (λ (words : List ℕ). get_or words c.args.index 0) (sym (words_are c.self.inside c.args.self.now c.self.invariant c.self.view_is c.args.page c.requires.live))
