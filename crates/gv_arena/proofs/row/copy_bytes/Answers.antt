-- One part more of the row is copied, and at the end the page's bytes are those of the row's definition.
use Rattle.std.proofs.Common.{◌≡◌, ℕ, subst, refl, arith}
use Rattle.gv_arena.specs.Rows.{bytes_of, IsCopied}
use Rattle.gv_arena.proofs.RowCopied.{copied_more, row_is}
use Rattle.gv_arena.proofs.row.copy_bytes.Goals as goal

pub loop-done-init : goal.loop-done-init
loop-done-init c = record {
  within = omega arith;
  long = c.told-target;
  words = c.fits-target;
  copied = record { copied = λ i lt. absurd (omega arith); before = λ i lt. refl; after = λ i le. refl };
}

pub loop-done-preserved : goal.loop-done-preserved
loop-done-preserved c = record {
  within = omega (arith, c.copy_first-done.ensures.many.1, c.loop-done-test.true);
  long = c.copy_first-done.array_long;
  words = c.copy_first-done.ensures.words;
  copied = copied_more (bytes_of c.args.source.now) (bytes_of c.args.target.now) (bytes_of c.loop-done.target) (bytes_of c.copy_first-done.new.target) c.args.from_byte c.args.to_byte c.loop-done.done c.copy_first-done.result
      c.loop-done.invariant.copied c.copy_first-done.ensures.copied;
}

pub returns-clause-copied : goal.returns-clause-copied
returns-clause-copied c =
    let all : c.loop-done.done ≡ c.args.count = omega (arith, c.loop-done.invariant.within, c.loop-done-test.false) in
    record {
      long = c.loop-done.invariant.long;
      bytes = subst (λ (n : ℕ). IsCopied (bytes_of c.args.source.now) (bytes_of c.args.target.now) (bytes_of c.loop-done.target) c.args.from_byte c.args.to_byte n) all c.loop-done.invariant.copied;
    }

pub returns-clause-row : goal.returns-clause-row
returns-clause-row c =
    let inv = c.loop-done.invariant in
    let all : c.loop-done.done ≡ c.args.count = omega (arith, inv.within, c.loop-done-test.false) in
    row_is c.args.source.now c.args.target.now c.loop-done.target c.args.from_byte c.args.to_byte c.args.count c.told-source c.told-target inv.long inv.words c.requires.from c.requires.to
    (subst (λ (n : ℕ). IsCopied (bytes_of c.args.source.now) (bytes_of c.args.target.now) (bytes_of c.loop-done.target) c.args.from_byte c.args.to_byte n) all inv.copied)

pub returns-clause-source : goal.returns-clause-source
returns-clause-source c = record { long = c.told-source; fit = c.fits-source }

pub returns-clause-target : goal.returns-clause-target
returns-clause-target c = record { long = c.told-target; fit = c.fits-target }
