use Rattle.std.proofs.Common.{◌≡◌, Result, Ok, Err, OnErr, [], arith, ap, sym, subst, ◌∙◌}
use Rattle.gv_text.specs.Script.{lines_of, is_too_long}
use Rattle.gv_lines.specs.Reader.{ReaderState, HandsOut}
use Rattle.gv_lines.proofs.Handing.{HandsOut-trans, coming-kept, Relates-kept}
use Rattle.gv_lines.proofs.Found.{tells-known, hands_out-known, one_line-known, empty-found}
use Rattle.gv_lines.proofs.reader.LineReader.advance.Goals as goal

pub returns-in-Some-clause-tells : goal.returns-in-Some-clause-tells
returns-in-Some-clause-tells g c =
    let left = g.S.Source.left in
    tells-known c.args.self.now c.loop-next.self c.found.new.self (left c.args.source.now) (left c.loop-next.source) c.in-Some.next c.in-Some.ensures.within c.in-Some.ensures.next c.in-Some.ensures.after c.loop-next.invariant.kept

pub returns-in-Some-clause-hands_out : goal.returns-in-Some-clause-hands_out
returns-in-Some-clause-hands_out g c =
    let left = g.S.Source.left in
    hands_out-known c.args.self.now c.loop-next.self c.found.new.self (left c.args.source.now) (left c.loop-next.source) c.in-Some.next c.in-Some.ensures.within c.in-Some.ensures.next c.in-Some.ensures.after c.loop-next.invariant.hands_out

pub returns-in-Some-clause-one_line : goal.returns-in-Some-clause-one_line
returns-in-Some-clause-one_line g c =
    let left = g.S.Source.left in
    one_line-known c.args.self.now c.loop-next.self c.found.new.self (left c.args.source.now) (left c.loop-next.source) c.in-Some.next c.in-Some.ensures.within c.in-Some.ensures.next c.in-Some.ensures.after

pub loop-next-preserved : goal.loop-next-preserved
loop-next-preserved g c =
    let left = g.S.Source.left in
    let s = c.loop-next.self in
    let t = c.fill.new.self in
    let a = left c.loop-next.source in
    let b = left c.fill.new.source in
    let same = c.in_default.ensures.same in
    let step = subst (λ (v : ReaderState). HandsOut v t a b []) same c.in_ok-fill.ensures.hands_out in
    record {
      hands_out = HandsOut-trans c.args.self.now s t (left c.args.source.now) a b [] [] c.loop-next.invariant.hands_out step;
      kept = Relates-kept c.args.self.now s t (left c.args.source.now) a b c.loop-next.invariant.kept (coming-kept s t c.in_default.ensures.going a b step c.in_ok-fill.ensures.ended);
      later = omega (arith, c.in_ok-fill.ensures.cause.later);
    }

OnErr_from : {T E P : Type 0} (r : Result T E) → P → OnErr r P
OnErr_from (Ok x) p = tt
OnErr_from (Err e) p = p

pub returns-in_err-fill-clause-nothing_held : goal.returns-in_err-fill-clause-nothing_held
returns-in_err-fill-clause-nothing_held g c =
    let s = c.loop-next.self in
    let empty = empty-found s c.in_default.ensures.within (sym (c.in_default.ensures.next)) in
    let held : c.fill.new.self.held ≡ s.held = ap (λ (v : ReaderState). v.held) c.in_err-fill.ensures.err ∙ ap (λ (v : ReaderState). v.held) c.in_default.ensures.same in
    OnErr_from c.from_residual.result (subst (λ l. lines_of is_too_long l ≡ []) (sym held) empty)
