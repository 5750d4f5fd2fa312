use Rattle.std.proofs.Common.{◌≡◌, [], None, cond, get_or, ap, subst, ◌∙◌}
use Rattle.gv_sring.specs.Window.{Window}
use Rattle.gv_sring.proofs.shadow.drop_all.Given.{Over}
use Rattle.gv_gpu.specs.Device.{Device}
use Rattle.gv_gpu.specs.Part.{outside, window_part}
use Rattle.gv_sring.proofs.Named.{in-part}
use Rattle.gv_sring.proofs.shadow.drop_all.Goals as goal

pub returns-clause-gone : goal.returns-clause-gone
returns-clause-gone g c = λ k less.
    let d = g.G.Gpu.state c.args.gpu.now in
    let w = c.args.shadow in
    let q = get_or w.pages k 0 in
    let same : outside (window_part w.guest w.engine []) (g.G.Gpu.state c.drop_all.new.gpu) ≡ outside (window_part w.guest w.engine w.pages) d = returns-outside g c in
    ap (λ (e : Device). e.label q) same
    ∙ ap (λ b. cond b None (d.label q)) (in-part w.guest w.engine w.pages k d less (c.requires.label k less))
  where
    returns-outside : (g : Over) (c : goal.After-drop_all g) → outside (window_part c.args.shadow.guest c.args.shadow.engine []) (g.G.Gpu.state c.drop_all.new.gpu) ≡ outside (window_part c.args.shadow.guest c.args.shadow.engine c.args.shadow.pages) (g.G.Gpu.state c.args.gpu.now)
    returns-outside g c = subst (λ (v : Window). outside (window_part v.guest v.engine []) (g.G.Gpu.state c.drop_all.new.gpu) ≡ outside (window_part v.guest v.engine v.pages) (g.G.Gpu.state c.args.gpu.now)) c.shadow.view_is c.drop_all.ensures.outside
