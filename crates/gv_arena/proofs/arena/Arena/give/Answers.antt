-- A number that was not live becomes a live page, of zeros.
use Rattle.std.proofs.Common.{◌∙◌, ◌<◌, ℕ, Bool, List, [], true, false, Some, None, length, set, get_or, sym, ap, arith, length-set, get_or-set_same}
use Rattle.gv_types.specs.Memory.{zero_words}
use Rattle.gv_arena.specs.ArenaHolds.{spare_of, shown, shown_page}
use Rattle.gv_arena.specs.Contents.{padded}
use Rattle.gv_arena.proofs.Padding.{get_or-padded}
use Rattle.gv_arena.proofs.Shown.{shown_at, shown_set}
use Rattle.gv_arena.proofs.Fields.{page_at, pages_set, spare_given, spare_is}
use Rattle.gv_arena.proofs.arena.Arena.give.Goals as goal

pub clear-requires : goal.clear-requires
clear-requires c = omega (arith, c.give-page.ensures.number.0, c.self.invariant.enough)

pub invariant_of-self : goal.invariant_of-self
invariant_of-self c =
    let a = c.self.inside in
    let page = c.give-page.result in
    let numbers = ap length c.give-page.ensures.marked in
    let store = ap length c.clear.ensures in
    record {
      enough = omega (arith, store, numbers, length-set a.store page zero_words, length-set a.numbers page true, c.self.invariant.enough);
      within = omega (arith, store, length-set a.store page zero_words, c.self.invariant.within);
    }

pub returns-clause-number : goal.returns-clause-number
returns-clause-number c =
    let a = c.self.inside in
    let page = c.give-page.result in (
      omega (arith, c.give-page.ensures.number.0, c.self.invariant.enough, c.self.invariant.within),
      page_at a c.args.self.now c.self.invariant c.self.view_is page ∙ ap (λ b. shown_page b (get_or a.store page [])) c.give-page.ensures.number.1,
    )

pub returns-clause-pages : goal.returns-clause-pages
returns-clause-pages c =
    let a = c.self.inside in
    let page = c.give-page.result in
    ap (λ (ms : List Bool). padded None (shown ms c.clear.new.self)) c.give-page.ensures.marked ∙ ap (λ (ps : List (List ℕ)). padded None (shown (set a.numbers page true) ps)) c.clear.ensures
    ∙ ap (padded None) (sym (shown_set a.numbers a.store page true zero_words)) ∙ pages_set a c.args.self.now c.self.invariant c.self.view_is page (Some zero_words) c.give-page.ensures.number.0

pub returns-clause-words : goal.returns-clause-words
returns-clause-words c =
    let a = c.self.inside in
    let page = c.give-page.result in
    let within : page < length a.store = omega (arith, c.give-page.ensures.number.0, c.self.invariant.enough) in
    let mark = ap (λ (ms : List Bool). get_or ms page false) c.give-page.ensures.marked ∙ get_or-set_same a.numbers page true false c.give-page.ensures.number.0 in
    let words = ap (λ (ps : List (List ℕ)). get_or ps page []) c.clear.ensures ∙ get_or-set_same a.store page zero_words [] within in
    get_or-padded None (shown c.give-page.new.self c.clear.new.self) page ∙ shown_at c.give-page.new.self c.clear.new.self page (invariant_of-self c).enough
    ∙ ap (λ b. shown_page b (get_or c.clear.new.self page [])) mark ∙ ap Some words

pub returns-clause-spare : goal.returns-clause-spare
returns-clause-spare c =
    let a = c.self.inside in
    omega (arith, ap spare_of c.give-page.ensures.marked, spare_given a.numbers c.give-page.result c.give-page.ensures.number.0 c.give-page.ensures.number.1, spare_is a c.args.self.now c.self.invariant c.self.view_is)
