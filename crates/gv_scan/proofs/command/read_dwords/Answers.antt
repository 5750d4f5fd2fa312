use Rattle.std.proofs.Common.{◌<◌, ◌+◌, ◌*◌, ◌/◌, ◌^◌, ◌∙◌, sym, refl, arith, length}
use Rattle.std.proofs.lemmas.List.{length-set}
use Rattle.gv_scan.proofs.Dwords.{dwords-none, owned-at, read-step}
use Rattle.gv_scan.proofs.command.read_dwords.Goals as goal

pub loop-n-init : goal.loop-n-init
loop-n-init g c = record { long = refl; words = sym (dwords-none (g.R.Reader.space c.args.reader.now).word c.args.at) }

pub overflow_cast-at : goal.overflow_cast-at
overflow_cast-at g c =
    let own = owned-at (g.R.Reader.space c.args.reader.now) c.args.at c.args.count c.loop-n.n c.requires.owned c.loop-n-test.true in
    let low : (c.args.at + 4 * c.loop-n.n) / 4096 < 2 ^ 20 = g.met.R.Reader.below c.args.reader.now ((c.args.at + 4 * c.loop-n.n) / 4096) own in
    omega arith

pub word-requires-clause-owned : goal.word-requires-clause-owned
word-requires-clause-owned g c = owned-at (g.R.Reader.space c.args.reader.now) c.args.at c.args.count c.loop-n.n c.requires.owned c.loop-n-test.true

pub loop-n-preserved : goal.loop-n-preserved
loop-n-preserved g c =
    let within : c.loop-n.n < length c.loop-n.words = omega arith in
    record {
      long = length-set c.loop-n.words c.loop-n.n c.word.result ∙ c.loop-n.invariant.long;
      words = read-step (g.R.Reader.space c.args.reader.now).word c.args.at c.loop-n.n c.word.result c.loop-n.words within c.loop-n.invariant.words c.word.ensures;
    }
