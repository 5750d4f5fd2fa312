use Rattle.std.proofs.Common.{arith, ◌∙◌}
use Rattle.gv_arena.proofs.Joined.{chunk_within, page_is}
use Rattle.gv_arena.proofs.store.Store.page.Goals as goal

pub index-requires : goal.index-requires
index-requires c = let chunks = c.self.inside.chunks in
    omega (arith, chunks.ok.0, chunk_within chunks.items c.args.self.now c.self.invariant c.self.view_is c.args.page c.requires)

pub returns : goal.returns
returns c = c.page.ensures ∙ page_is c.self.inside.chunks.items c.args.self.now c.self.invariant c.self.view_is c.args.page c.requires c.index.result.now c.index.ensures
