use Rattle.std.proofs.Common.{◌∙◌, ap}
use Rattle.gv_types.specs.Memory.{half_of}
use Rattle.gv_fetch.specs.Space.{dword_in}
use Rattle.gv_gtt.specs.Gtt.{memory_of}
use Rattle.gv_gtt.proofs.Unguarded.{dword-half}
use Rattle.gv_gtt.proofs.gtt.Gtt.read_dword.Goals as goal

pub returns : goal.returns
returns g c =
    let d = g.G.Gpu.state c.args.gpu.now in
    let m = memory_of d c.args.self.now in
    λ p. c.half.ensures ∙ ap (λ word. half_of word c.args.at) c.read_frame-word.ensures ∙ dword-half m c.args.at c.grant-frame.result ∙ ap (λ o. dword_in m o c.args.at) (c.grant-frame.ensures.grant d p c.requires.translates)
