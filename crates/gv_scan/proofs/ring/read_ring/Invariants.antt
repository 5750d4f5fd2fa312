use Rattle.std.proofs.Common.{◌≡◌, map}
use Rattle.std.specs.List.{range_with_len}
use Rattle.gv_fetch.specs.Fetch.{ring_at}
use Rattle.gv_scan.proofs.ring.read_ring.Given as goal

abbrev pub invariant-loop-k : goal.invariant-loop-k
invariant-loop-k g l = l.words.items ≡ map (λ k. (g.R.Reader.space l.reader).word (ring_at l.image k)) (range_with_len 0 l.k)
