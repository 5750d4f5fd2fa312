use Rattle.std.proofs.Common.{◌≡◌, ◌+◌, ◌∙◌, ℕ, List, sym, ap, arith, refl, get_or}
use Rattle.gv_gpu.specs.Step.{Stepping, bytes_stored}
use Rattle.gv_engine.specs.Running.{stepping}
use Rattle.gv_engine.specs.Whole.{whole}
use Rattle.gv_engine.proofs.RowLemmas.{bytes_stored-none, bytes_stored-append}
use Rattle.gv_engine.proofs.soft.SoftGpu.write_row.Goals as goal

pub loop-done-init : goal.loop-done-init
loop-done-init c = record {
  within = omega arith;
  row = refl;
  stored = λ engine. sym (bytes_stored-none (stepping (whole c.args.self.now) engine c.args.context.now c.args.strayed) c.args.to (λ k. get_or c.args.self.now.row k 0));
}

pub loop-done-preserved : goal.loop-done-preserved
loop-done-preserved c =
    let inv = c.loop-done.invariant in
    let done = c.loop-done.done in
    let span = c.write_span-more in
    let more = span.result.0 in
    record {
      within = omega (arith, span.ensures.many, c.loop-done-test.true);
      row = span.ensures.row ∙ inv.row;
      stored = λ engine.
          let start = stepping (whole c.args.self.now) engine c.args.context.now c.args.strayed in
          let now = stepping (whole c.loop-done.self) engine c.args.context.now c.loop-done.strayed in
          span.ensures.left engine
          ∙ ap (λ (row : List ℕ). bytes_stored now (c.args.to + done) (λ k. get_or row (done + k) 0) more) inv.row
          ∙ ap (λ (t : Stepping). bytes_stored t (c.args.to + done) (λ k. get_or c.args.self.now.row (done + k) 0) more) (inv.stored engine)
          ∙ sym (bytes_stored-append start c.args.to (λ k. get_or c.args.self.now.row k 0) done more);
    }

pub returns : goal.returns
returns c = λ engine.
    let inv = c.loop-done.invariant in
    let all : c.loop-done.done ≡ c.args.count = omega (arith, inv.within, c.loop-done-test.false) in
    inv.stored engine ∙ ap (bytes_stored (stepping (whole c.args.self.now) engine c.args.context.now c.args.strayed) c.args.to (λ k. get_or c.args.self.now.row k 0)) all
