-- The row is read before it is written, so that both pages may be one.
use Rattle.std.proofs.Common.{ℕ, ◌/◌, ◌%◌, List, [], get_or, set, arith, subst, ap, ◌∙◌}
use Rattle.gv_arena.specs.Rows.{row_copied, IsPage, IsRowCopied}
use Rattle.gv_arena.specs.Store.{joined}
use Rattle.gv_arena.proofs.Joined.{chunk_within, page_is, chunk_set, chunks_kept}
use Rattle.gv_arena.proofs.store.Store.copy_row.Goals as goal

pub index_mut-requires : goal.index_mut-requires
index_mut-requires c = let chunks = c.self.inside.chunks in
    omega (arith, chunks.ok.0, chunk_within chunks.items c.args.self.now c.self.invariant c.self.view_is c.args.to c.requires.to)

pub invariant_of-self : goal.invariant_of-self
invariant_of-self c = chunks_kept c.self.inside.chunks.items c.args.self.now c.self.invariant c.self.view_is c.args.to c.requires.to c.index_mut.result.now c.index_mut.ensures.value c.copy_in.new.self _ c.copy_in.ensures.pages

pub returns-clause-pages : goal.returns-clause-pages
returns-clause-pages c =
    let chunks = c.self.inside.chunks.items in
    let now = c.args.self.now in
    let chunk = c.index_mut.result.now in
    let slot = c.args.to % 64 in
    let is = page_is chunks now c.self.invariant c.self.view_is c.args.to c.requires.to chunk c.index_mut.ensures.value in
    let row = λ (source target : List ℕ). row_copied source c.args.from_byte target c.args.to_byte c.args.count in
    let old = get_or now c.args.to [] in
    ap (λ (d : List (List ℕ)). joined (set chunks (c.args.to / 64) d))
    (c.copy_in.ensures.pages ∙ ap (λ (words : List ℕ). set chunk slot (row c.page.result.now words)) is ∙ ap (λ (words : List ℕ). set chunk slot (row words old)) c.page.ensures)
    ∙ chunk_set chunks now c.self.invariant c.self.view_is c.args.to c.requires.to chunk c.index_mut.ensures.value (row (get_or now c.args.from []) old)

pub returns-clause-copied : goal.returns-clause-copied
returns-clause-copied c =
    let now = c.args.self.now in
    let from = c.args.from_byte in
    let to = c.args.to_byte in
    let n = c.args.count in
    let old = get_or now c.args.to [] in
    let is = page_is c.self.inside.chunks.items now c.self.invariant c.self.view_is c.args.to c.requires.to c.index_mut.result.now c.index_mut.ensures.value in
    subst (λ (source : List ℕ). IsRowCopied source old (row_copied source from old to n) from to n) c.page.ensures
    (subst (λ (target : List ℕ). IsRowCopied c.page.result.now target (row_copied c.page.result.now from target to n) from to n) is c.copy_in.ensures.copied)

pub returns-clause-source : goal.returns-clause-source
returns-clause-source c = subst IsPage c.page.ensures c.copy_in.ensures.source

pub returns-clause-target : goal.returns-clause-target
returns-clause-target c =
    subst IsPage (page_is c.self.inside.chunks.items c.args.self.now c.self.invariant c.self.view_is c.args.to c.requires.to c.index_mut.result.now c.index_mut.ensures.value) c.copy_in.ensures.target
