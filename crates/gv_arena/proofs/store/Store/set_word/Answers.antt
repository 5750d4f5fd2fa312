use Rattle.std.proofs.Common.{◌/◌, ◌%◌, List, [], ℕ, get_or, set, arith, ap, ◌∙◌}
use Rattle.gv_arena.specs.Store.{joined}
use Rattle.gv_arena.proofs.Joined.{chunk_within, page_is, chunk_set, chunks_kept}
use Rattle.gv_arena.proofs.store.Store.set_word.Goals as goal

pub index_mut-requires : goal.index_mut-requires
index_mut-requires c = let chunks = c.self.inside.chunks in
    omega (arith, chunks.ok.0, chunk_within chunks.items c.args.self.now c.self.invariant c.self.view_is c.args.page c.requires.page)

pub invariant_of-self : goal.invariant_of-self
invariant_of-self c = chunks_kept c.self.inside.chunks.items c.args.self.now c.self.invariant c.self.view_is c.args.page c.requires.page c.index_mut.result.now c.index_mut.ensures.value c.set_word.new.self _ c.set_word.ensures

pub returns : goal.returns
returns c =
    let chunks = c.self.inside.chunks.items in
    let chunk = c.index_mut.result.now in
    let is = page_is chunks c.args.self.now c.self.invariant c.self.view_is c.args.page c.requires.page chunk c.index_mut.ensures.value in
    let now = λ (words : List ℕ). set words c.args.index c.args.value in
    ap (λ (d : List (List ℕ)). joined (set chunks (c.args.page / 64) d)) (c.set_word.ensures ∙ ap (λ (words : List ℕ). set chunk (c.args.page % 64) (now words)) is)
    ∙ chunk_set chunks c.args.self.now c.self.invariant c.self.view_is c.args.page c.requires.page chunk c.index_mut.ensures.value (now (get_or c.args.self.now c.args.page []))
