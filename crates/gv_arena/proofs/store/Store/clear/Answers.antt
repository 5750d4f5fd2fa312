use Rattle.std.proofs.Common.{◌/◌, List, ℕ, set, arith, ap, ◌∙◌}
use Rattle.gv_types.specs.Memory.{zero_words}
use Rattle.gv_arena.specs.Store.{joined}
use Rattle.gv_arena.proofs.Joined.{chunk_within, chunk_set, chunks_kept}
use Rattle.gv_arena.proofs.store.Store.clear.Goals as goal

pub index_mut-requires : goal.index_mut-requires
index_mut-requires c = let chunks = c.self.inside.chunks in
    omega (arith, chunks.ok.0, chunk_within chunks.items c.args.self.now c.self.invariant c.self.view_is c.args.page c.requires)

pub invariant_of-self : goal.invariant_of-self
invariant_of-self c = chunks_kept c.self.inside.chunks.items c.args.self.now c.self.invariant c.self.view_is c.args.page c.requires c.index_mut.result.now c.index_mut.ensures.value c.clear.new.self zero_words c.clear.ensures

pub returns : goal.returns
returns c = ap (λ (chunk : List (List ℕ)). joined (set c.self.inside.chunks.items (c.args.page / 64) chunk)) c.clear.ensures
    ∙ chunk_set c.self.inside.chunks.items c.args.self.now c.self.invariant c.self.view_is c.args.page c.requires c.index_mut.result.now c.index_mut.ensures.value zero_words
