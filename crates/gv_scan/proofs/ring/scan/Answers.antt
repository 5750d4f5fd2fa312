use Rattle.std.proofs.Common.{◌∙◌, ap, sym, arith, length}
use Rattle.gv_scan.proofs.Pages.{ring-low, ring-small}
use Rattle.gv_scan.proofs.ring.scan.Goals as goal

pub read_ring-requires-clause-low : goal.read_ring-requires-clause-low
read_ring-requires-clause-low g c = ring-low (g.R.Reader.space c.args.reader.now) c.args.image.now c.requires.image (λ page own. g.met.R.Reader.below c.args.reader.now page own) (sym c.owns_pages.ensures ∙ c.if-not-owns_pages.false)

pub scan_ring-requires : goal.scan_ring-requires
scan_ring-requires g c =
    let small = ring-small (g.R.Reader.space c.args.reader.now) c.args.image.now c.requires.image in
    let long = ap length (c.deref.ensures.value ∙ c.in_ok-words.ensures.done) in
    omega arith
