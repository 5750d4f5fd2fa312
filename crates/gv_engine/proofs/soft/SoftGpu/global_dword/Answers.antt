use Rattle.std.proofs.Common.{◌∙◌, ap}
use Rattle.gv_types.specs.Memory.{half_of}
use Rattle.gv_gpu.specs.Physical.{word_in, operand_at}
use Rattle.gv_engine.specs.Whole.{whole}
use Rattle.gv_engine.proofs.soft.SoftGpu.global_dword.Goals as goal

pub returns : goal.returns
unfolding operand_at
returns c =
    let d = whole c.args.self.now in
    c.half.ensures ∙ ap (λ word. half_of word c.args.at) (c.word_in.ensures ∙ ap (λ page. word_in d page c.args.at) (c.read_page.ensures 0))
