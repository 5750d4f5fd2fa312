use Rattle.std.proofs.Common.{◌≡◌, ◌+◌, ◌-◌, ◌∙◌, ℕ, false, sym, ap, arith, refl, inl, inr, get_or}
use Rattle.std.proofs.lemmas.Bool.{cases_lt}
use Rattle.gv_gpu.specs.Device.{Device}
use Rattle.gv_gpu.specs.Physical.{byte_at, read_strays}
use Rattle.gv_engine.specs.Soft.{loaded_of}
use Rattle.gv_engine.specs.Whole.{whole}
use Rattle.gv_engine.proofs.RowLemmas.{bytes_stray-none, stray-more}
use Rattle.gv_engine.proofs.soft.SoftGpu.read_row.Goals as goal

pub loop-done-init : goal.loop-done-init
loop-done-init c = record { within = omega arith; same = refl; bytes = λ k h. absurd (omega arith); strayed = sym (bytes_stray-none (whole c.args.self.now) (loaded_of c.args.context.now) c.args.from) }

pub loop-done-preserved : goal.loop-done-preserved
loop-done-preserved c =
    let inv = c.loop-done.invariant in
    let done = c.loop-done.done in
    let d = whole c.args.self.now in
    let root = c.args.context.now.root in
    let from = c.args.from in
    record {
      within = omega (arith, c.span-more.ensures.many, c.loop-done-test.true);
      same = c.read_span-stray.ensures.same ∙ inv.same;
      bytes = λ k h. elim (cases_lt k done) [
        | inl early ↦ c.read_span-stray.ensures.before k early ∙ inv.bytes k early
        | inr late ↦ (let m = k - done in
            let there : done + m ≡ k = omega arith in
            let here : from + done + m ≡ from + k = omega arith in
            ap (λ (n : ℕ). get_or c.read_span-stray.new.self.row n 0) (sym there) ∙ c.read_span-stray.ensures.bytes m (omega arith)
            ∙ ap (λ (e : Device). byte_at e root false (from + done + m)) inv.same ∙ ap (byte_at d root false) here)
      ];
      strayed = stray-more d (loaded_of c.args.context.now) from done c.span-more.result c.loop-done.strayed c.read_span-stray.result c.either-strayed.result c.span-more.ensures.many.0 c.span-more.ensures.page
          inv.strayed (c.read_span-stray.ensures.strayed ∙ ap (λ (e : Device). read_strays e (loaded_of c.args.context.now) false (from + done)) inv.same) c.either-strayed.ensures;
    }
