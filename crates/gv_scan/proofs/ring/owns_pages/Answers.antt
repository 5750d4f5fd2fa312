use Rattle.std.proofs.Common.{◌≡◌, ◌-◌, ◌+◌, ◌∙◌, ap, sym, arith}
use Rattle.gv_fetch.specs.Fetch.{owns_pages}
use Rattle.gv_scan.proofs.Pages.{pages-none, page-away, page-on}
use Rattle.gv_scan.proofs.ring.owns_pages.Goals as goal

pub returns-then-not-owned : goal.returns-then-not-owned
returns-then-not-owned g c =
    sym (page-away (g.R.Reader.space c.args.reader.now) c.args.first c.loop-n.n c.args.count c.loop-n-test.true (sym c.owned.ensures ∙ c.if-not-owned.true)) ∙ c.loop-n.invariant

pub loop-n-preserved : goal.loop-n-preserved
loop-n-preserved g c =
    page-on (g.R.Reader.space c.args.reader.now) c.args.first c.loop-n.n c.args.count c.loop-n-test.true (sym c.owned.ensures ∙ c.if-not-owned.false) ∙ c.loop-n.invariant

pub returns : goal.returns
returns g c =
    let none : c.args.count - c.loop-n.n ≡ 0 = omega arith in
    sym (ap (owns_pages (g.R.Reader.space c.args.reader.now) (c.args.first + c.loop-n.n)) none ∙ pages-none (g.R.Reader.space c.args.reader.now) (c.args.first + c.loop-n.n)) ∙ c.loop-n.invariant
