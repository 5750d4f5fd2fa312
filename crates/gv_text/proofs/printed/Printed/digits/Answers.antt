use Rattle.std.proofs.Common.{◌≡◌, ◌+◌, ◌-◌, ◌/◌, ◌∷◌, ◌++◌, length, set, refl, arith, ap, ◌∙◌}
use Rattle.std.proofs.lemmas.List.{length-set}
use Rattle.gv_text.proofs.Hex.{all_digits, all_digits-start, all_digits-more, last_digits, fewer_by_one, some_digit}
use Rattle.gv_text.proofs.printed.Printed.digits.Goals as goal

pub loop-rest-init : goal.loop-rest-init
loop-rest-init c = record { all = all_digits-start _ c.args.number refl; some = omega arith; inside = omega arith; long = refl; small = omega arith }

pub loop-rest-preserved : goal.loop-rest-preserved
loop-rest-preserved c =
    let digits = c.loop-rest.digits in
    let i = c.loop-rest.start - 1 in
    let before : i + 1 ≡ c.loop-rest.start = omega arith in
    let small = fewer_by_one i c.loop-rest.start c.loop-rest.rest before c.loop-rest.invariant.small in
    record {
      all =
          ap (λ g. all_digits (set digits i g) i (c.loop-rest.rest / 16)) c.glyph.ensures
          ∙ all_digits-more digits i c.loop-rest.rest (omega arith) c.if-rest-eq0.false
          ∙ ap (λ k. all_digits digits k c.loop-rest.rest) before
          ∙ c.loop-rest.invariant.all;
      some = some_digit i (c.loop-rest.rest / 16) small c.if-rest-eq0.false;
      inside = omega arith;
      long = length-set digits i c.glyph.result ∙ c.loop-rest.invariant.long;
      small = small;
    }

pub word-requires : goal.word-requires
word-requires c =
    let start = c.loop-rest.start in
    let all = last_digits c.loop-rest.digits (start - 1) start c.loop-rest.rest c.args.number c.glyph.result (omega arith) (omega arith) c.loop-rest.invariant.long c.glyph.ensures c.if-rest-eq0.true c.loop-rest.invariant.all in
    omega (arith, ap length all)

pub returns-clause-value : goal.returns-clause-value
returns-clause-value c =
    let start = c.loop-rest.start in
    let all = last_digits c.loop-rest.digits (start - 1) start c.loop-rest.rest c.args.number c.glyph.result (omega arith) (omega arith) c.loop-rest.invariant.long c.glyph.ensures c.if-rest-eq0.true c.loop-rest.invariant.all in
    c.word.ensures.value ∙ ap (λ w. c.args.self.now ++ 32 ∷ w) all

pub returns-clause-len : goal.returns-clause-len
returns-clause-len c =
    let start = c.loop-rest.start in
    let all = last_digits c.loop-rest.digits (start - 1) start c.loop-rest.rest c.args.number c.glyph.result (omega arith) (omega arith) c.loop-rest.invariant.long c.glyph.ensures c.if-rest-eq0.true c.loop-rest.invariant.all in
    omega (arith, ap length all, c.word.ensures.len)
