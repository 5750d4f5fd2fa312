use Rattle.std.proofs.Common.{ℕ, List, get_or, arith, ap, ◌∙◌}
use Rattle.gv_arena.proofs.Joined.{chunk_within, page_is}
use Rattle.gv_arena.proofs.store.Store.word.Goals as goal

pub index-requires : goal.index-requires
index-requires c = let chunks = c.self.inside.chunks in
    omega (arith, chunks.ok.0, chunk_within chunks.items c.args.self.now c.self.invariant c.self.view_is c.args.page c.requires.page)

pub returns : goal.returns
returns c = c.word.ensures ∙ ap (λ (words : List ℕ). get_or words c.args.index 0) (page_is c.self.inside.chunks.items c.args.self.now c.self.invariant c.self.view_is c.args.page c.requires.page c.index.result.now c.index.ensures)
