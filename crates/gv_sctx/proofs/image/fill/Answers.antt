use Rattle.std.proofs.Common.{ap, subst, ◌∙◌}
use Rattle.gv_gpu.specs.Device.{Device}
use Rattle.gv_gpu.specs.Part.{outside}
use Rattle.gv_sctx.specs.Image.{dwords_poked, AreDwords, saved_in}
use Rattle.gv_sctx.proofs.Filling.{poked-label, poked-outside, poked-saved}
use Rattle.gv_sctx.proofs.image.fill.Goals as goal

pub returns-clause-place : goal.returns-clause-place
returns-clause-place g c = λ long.
    let d = g.G.Gpu.state c.args.gpu.now in
    let fields = c.dwords_of-dwords.ensures.fields in
    ap (λ e. saved_in (e.words c.args.image_page)) (c.set_dwords.ensures ∙ ap (dwords_poked d c.args.image_page) fields)
    ∙ poked-saved d c.args.image_page c.args.start c.args.saved.now c.args.tail c.args.shadow_root long (subst AreDwords fields c.dwords_of-dwords.ensures.dwords)

pub returns-clause-labels : goal.returns-clause-labels
returns-clause-labels g c =
    ap (λ (e : Device). e.label) c.set_dwords.ensures ∙ poked-label (g.G.Gpu.state c.args.gpu.now) c.args.image_page c.dwords_of-dwords.result

pub returns-clause-outside : goal.returns-clause-outside
returns-clause-outside g c = λ p own.
    ap (outside p) c.set_dwords.ensures ∙ poked-outside p (g.G.Gpu.state c.args.gpu.now) c.args.image_page c.dwords_of-dwords.result own
