-- Chunk after chunk comes after the pages that were there.
use Rattle.std.proofs.Common.{◌≡◌, ◌++◌, length, arith, ap, ◌∙◌, length-append}
use Rattle.gv_arena.specs.Store.{joined}
use Rattle.gv_arena.proofs.Joined.{length-joined, joined_push, chunks_push}
use Rattle.gv_arena.proofs.Longer.{length-zero_pages, longer_same, longer_more}
use Rattle.gv_arena.proofs.store.Store.grow.Goals as goal

pub loop-self-init : goal.loop-self-init
loop-self-init c = record {
  chunks = c.self.invariant;
  longer = longer_same (joined c.self.inside.chunks.items);
  within = omega (arith, ap length c.self.view_is, c.requires.1);
}

pub overflow_mul-len : goal.overflow_mul-len
overflow_mul-len c =
    let chunks = c.loop-self.self-inside.chunks in
    record { fits = omega (arith, length-joined chunks.items c.loop-self.invariant.chunks, c.loop-self.invariant.within, chunks.ok.0, c.len.ensures) }

pub loop-self-preserved : goal.loop-self-preserved
loop-self-preserved c =
    let chunks = c.loop-self.self-inside.chunks in
    let inv = c.loop-self.invariant in
    let chunk = c.in_ok-chunk.chunk in
    let now = c.in_ok-push.ensures.items in
    let long : length chunk ≡ 64 = ap length c.in_ok-chunk.ensures ∙ length-zero_pages in
    let more : joined c.push.new.self.items ≡ joined chunks.items ++ chunk = ap joined now ∙ joined_push chunks.items chunk in
    record {
      chunks = rw now (chunks_push chunks.items chunk inv.chunks long);
      longer = rw more (longer_more (joined c.self.inside.chunks.items) (joined chunks.items) chunk inv.longer);
      within = omega (arith, ap length more, length-append (joined chunks.items) chunk, long, length-joined chunks.items inv.chunks, c.loop-self-test.true, c.len.ensures, chunks.ok.0, c.requires.0);
    }

pub returns-clause-ok : goal.returns-clause-ok
returns-clause-ok c =
    let chunks = c.loop-self.self-inside.chunks in
    omega (arith, length-joined chunks.items c.loop-self.invariant.chunks, c.loop-self-test.false, c.len.ensures, chunks.ok.0)
