use Rattle.std.proofs.Common.{◌∙◌, ap}
use Rattle.gv_types.specs.Memory.{with_half}
use Rattle.gv_gpu.specs.Physical.{word_in, word_stored, operand_stored}
use Rattle.gv_engine.specs.Whole.{whole}
use Rattle.gv_engine.proofs.soft.SoftGpu.store_global_dword.Goals as goal

pub returns : goal.returns
unfolding operand_stored
returns c =
    let d = whole c.args.self.now in
    c.store_half.ensures ∙ ap (λ page. word_stored d page c.args.at (with_half (word_in d page c.args.at) c.args.at c.args.value)) (c.write_page-page.ensures.value 0)
