use Rattle.std.proofs.Common.{◌≡◌, ◌+◌, ◌∷◌, drop, get_or, sym, ap, subst, ◌∙◌}
use Rattle.std.proofs.lemmas.List.{at_drop_more, drop_all}
use Rattle.std.specs.Prelude.{IsSome}
use Rattle.gv_gpu.specs.Device.{Device}
use Rattle.gv_sctx.specs.Image.{dwords_poked, AreDwords}
use Rattle.gv_sctx.proofs.Filling.{poked-first, poked-none}
use Rattle.gv_sctx.proofs.image.set_dwords.Goals as goal

pub loop-n-preserved : goal.loop-n-preserved
loop-n-preserved g c =
    let d = g.G.Gpu.state c.loop-n.gpu in
    let xs = c.args.dwords.now in
    let k = c.loop-n.n-index in
    let x = get_or xs k (0, 0) in
    let first : drop k xs ≡ x ∷ drop (k + 1) xs = at_drop_more (λ ys. ys) xs k (0, 0) c.loop-n-test.true in
    let each : AreDwords (x ∷ drop (k + 1) xs) = subst AreDwords first c.loop-n.invariant.within in
    record {
      live = subst (λ (e : Device). IsSome (e.label c.args.page)) (sym c.set_dword.ensures) c.loop-n.invariant.live;
      within = each.2;
      ahead = ap (λ e. dwords_poked e c.args.page (drop (k + 1) xs)) c.set_dword.ensures
          ∙ sym (poked-first d c.args.page x (drop (k + 1) xs))
          ∙ sym (ap (dwords_poked d c.args.page) first)
          ∙ c.loop-n.invariant.ahead;
    }

pub returns : goal.returns
returns g c =
    sym (poked-none (g.G.Gpu.state c.loop-n.gpu) c.args.page _ (drop_all c.loop-n.n-index c.args.dwords.now c.loop-n-test.false)) ∙ c.loop-n.invariant.ahead
