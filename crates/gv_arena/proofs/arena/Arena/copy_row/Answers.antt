-- The page that is written stays live.
use Rattle.std.proofs.Common.{◌∙◌, ℕ, List, [], Some, None, Option, length, set, get_or, sym, ap, subst, arith, length-set, get_or-set_same}
use Rattle.gv_arena.specs.ArenaHolds.{shown, shown_page}
use Rattle.gv_arena.specs.Contents.{padded, words_or_none, words_of}
use Rattle.gv_arena.specs.Rows.{row_copied, IsPage, IsRowCopied}
use Rattle.gv_arena.proofs.Padding.{get_or-padded}
use Rattle.gv_arena.proofs.Shown.{shown_at}
use Rattle.gv_arena.proofs.Fields.{page_within, pages_written, words_are, spare_is, mark_at}
use Rattle.gv_arena.proofs.arena.Arena.copy_row.Goals as goal

pub copy_row-requires-clause-from : goal.copy_row-requires-clause-from
copy_row-requires-clause-from c = page_within c.self.inside c.args.self.now c.self.invariant c.self.view_is c.args.from c.requires.from

pub copy_row-requires-clause-to : goal.copy_row-requires-clause-to
copy_row-requires-clause-to c = page_within c.self.inside c.args.self.now c.self.invariant c.self.view_is c.args.to c.requires.to

pub invariant_of-self : goal.invariant_of-self
invariant_of-self c =
    let a = c.self.inside in
    let same = length-set a.store c.args.to (row_copied (get_or a.store c.args.from []) c.args.from_byte (get_or a.store c.args.to []) c.args.to_byte c.args.count) in
    record {
      enough = omega (arith, ap length c.copy_row.ensures.pages, same, c.self.invariant.enough);
      within = omega (arith, ap length c.copy_row.ensures.pages, same, c.self.invariant.within);
    }

pub returns-clause-pages : goal.returns-clause-pages
returns-clause-pages c =
    let a = c.self.inside in
    let now = c.args.self.now in
    let page = c.args.to in
    let from = words_are a now c.self.invariant c.self.view_is c.args.from c.requires.from in
    let to = words_are a now c.self.invariant c.self.view_is page c.requires.to in
    let row = λ (source target : List ℕ). row_copied source c.args.from_byte target c.args.to_byte c.args.count in
    let pages = ap (λ (ps : List (List ℕ)). padded None (shown a.numbers ps)) c.copy_row.ensures.pages
    ∙ pages_written a now c.self.invariant c.self.view_is page c.requires.to (row (get_or a.store c.args.from []) (get_or a.store page []))
    ∙ ap (λ (words : List ℕ). set now.pages page (Some (row words (get_or a.store page [])))) (sym from)
    ∙ ap (λ (words : List ℕ). set now.pages page (Some (row (words_of now c.args.from) words))) (sym to) in
    let spare = spare_is a now c.self.invariant c.self.view_is in
    λ i. record { pages = pages i; spare = spare i }

pub returns-clause-bytes : goal.returns-clause-bytes
returns-clause-bytes c =
    let a = c.self.inside in
    let now = c.args.self.now in
    let page = c.args.to in
    let from = words_are a now c.self.invariant c.self.view_is c.args.from c.requires.from in
    let to = words_are a now c.self.invariant c.self.view_is page c.requires.to in
    let mark = mark_at a now c.self.invariant c.self.view_is page ∙ c.requires.to in
    let within = page_within a now c.self.invariant c.self.view_is page c.requires.to in
    let row = row_copied (get_or a.store c.args.from []) c.args.from_byte (get_or a.store page []) c.args.to_byte c.args.count in
    let new = get_or-padded None (shown a.numbers c.copy_row.new.self) page ∙ shown_at a.numbers c.copy_row.new.self page (invariant_of-self c).enough
    ∙ ap (λ b. shown_page b (get_or c.copy_row.new.self page [])) mark ∙ ap (λ (ps : List (List ℕ)). Some (get_or ps page [])) c.copy_row.ensures.pages
    ∙ ap Some (get_or-set_same a.store page row [] within) in
    let IsRow = λ (source old : List ℕ) (p : Option (List ℕ)). IsRowCopied source old (words_or_none p) c.args.from_byte c.args.to_byte c.args.count in
    let after = get_or (padded None (shown a.numbers c.copy_row.new.self)) page None in
    subst (λ (source : List ℕ). IsRow source (words_of now page) after) (sym from)
    (subst (λ (old : List ℕ). IsRow (get_or a.store c.args.from []) old after) (sym to)
    (subst (λ (p : Option (List ℕ)). IsRow (get_or a.store c.args.from []) (get_or a.store page []) p) (sym new) c.copy_row.ensures.copied))

pub returns-clause-source : goal.returns-clause-source
returns-clause-source c = subst IsPage (sym (words_are c.self.inside c.args.self.now c.self.invariant c.self.view_is c.args.from c.requires.from)) c.copy_row.ensures.source

pub returns-clause-target : goal.returns-clause-target
returns-clause-target c = subst IsPage (sym (words_are c.self.inside c.args.self.now c.self.invariant c.self.view_is c.args.to c.requires.to)) c.copy_row.ensures.target
