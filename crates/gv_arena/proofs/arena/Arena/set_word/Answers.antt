-- The page has other words, and stays live.
use Rattle.std.proofs.Common.{◌∙◌, ℕ, List, [], Some, None, length, set, get_or, sym, ap, arith, length-set}
use Rattle.gv_arena.specs.ArenaHolds.{shown}
use Rattle.gv_arena.specs.Contents.{padded}
use Rattle.gv_arena.proofs.Fields.{page_within, pages_written, words_are, spare_is}
use Rattle.gv_arena.proofs.arena.Arena.set_word.Goals as goal

pub set_word-requires-clause-page : goal.set_word-requires-clause-page
set_word-requires-clause-page c = page_within c.self.inside c.args.self.now c.self.invariant c.self.view_is c.args.page c.requires.live

pub invariant_of-self : goal.invariant_of-self
invariant_of-self c =
    let a = c.self.inside in
    let same = length-set a.store c.args.page (set (get_or a.store c.args.page []) c.args.index c.args.value) in
    record {
      enough = omega (arith, ap length c.set_word.ensures, same, c.self.invariant.enough);
      within = omega (arith, ap length c.set_word.ensures, same, c.self.invariant.within);
    }

pub returns : goal.returns
returns c =
    let a = c.self.inside in
    let now = c.args.self.now in
    let page = c.args.page in
    let changed = λ (words : List ℕ). set words c.args.index c.args.value in
    let pages = ap (λ (ps : List (List ℕ)). padded None (shown a.numbers ps)) c.set_word.ensures
    ∙ pages_written a now c.self.invariant c.self.view_is page c.requires.live (changed (get_or a.store page []))
    ∙ ap (λ (words : List ℕ). set now.pages page (Some (changed words))) (sym (words_are a now c.self.invariant c.self.view_is page c.requires.live)) in
    let spare = spare_is a now c.self.invariant c.self.view_is in
    λ i. record { pages = pages i; spare = spare i }
