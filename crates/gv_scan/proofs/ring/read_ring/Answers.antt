use Rattle.std.proofs.Common.{◌∙◌, ◌++◌, ◌∷◌, [], ap, sym, zero-add}
use Rattle.std.proofs.lemmas.List.FromFn.{map-range_with_len_more}
use Rattle.gv_fetch.specs.Fetch.{ring_at}
use Rattle.gv_scan.proofs.Pages.{ring-owned}
use Rattle.gv_scan.proofs.ring.read_ring.Goals as goal

pub word-word-requires-clause-owned : goal.word-word-requires-clause-owned
word-word-requires-clause-owned g c = ring-owned (g.R.Reader.space c.args.reader.now) c.args.image.now c.loop-k.k c.requires.image c.requires.owned

pub loop-k-preserved : goal.loop-k-preserved
loop-k-preserved g c =
    let space = g.R.Reader.space c.args.reader.now in
    c.in_ok-push.ensures.items
    ∙ ap (λ w. c.loop-k.words.items ++ w ∷ []) c.word-word.ensures
    ∙ ap (λ xs. xs ++ space.word (ring_at c.args.image.now c.loop-k.k) ∷ []) c.loop-k.invariant
    ∙ sym (map-range_with_len_more (λ k. space.word (ring_at c.args.image.now k)) 0 c.loop-k.k c.loop-k.k (zero-add c.loop-k.k))
