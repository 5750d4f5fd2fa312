use Rattle.std.proofs.Common.{◌≡◌, ◌-◌, ◌+◌, ◌*◌, ◌∙◌, ap, sym, arith}
use Rattle.gv_fetch.specs.Fetch.{owns_dwords}
use Rattle.gv_scan.proofs.Dwords.{owns-none, unowned-at, owned-on}
use Rattle.gv_scan.proofs.command.owns_dwords.Goals as goal

pub returns-then-not-owned : goal.returns-then-not-owned
returns-then-not-owned g c =
    sym (unowned-at (g.R.Reader.space c.args.reader.now) c.args.at c.loop-n.n c.args.count c.loop-n-test.true (sym c.owned.ensures ∙ c.if-not-owned.true)) ∙ c.loop-n.invariant

pub loop-n-preserved : goal.loop-n-preserved
loop-n-preserved g c =
    owned-on (g.R.Reader.space c.args.reader.now) c.args.at c.loop-n.n c.args.count c.loop-n-test.true (sym c.owned.ensures ∙ c.if-not-owned.false) ∙ c.loop-n.invariant

pub returns : goal.returns
returns g c =
    let none : c.args.count - c.loop-n.n ≡ 0 = omega arith in
    sym (ap (owns_dwords (g.R.Reader.space c.args.reader.now) (c.args.at + 4 * c.loop-n.n)) none ∙ owns-none (g.R.Reader.space c.args.reader.now) (c.args.at + 4 * c.loop-n.n)) ∙ c.loop-n.invariant
