use Rattle.std.proofs.Common.{◌+◌, ◌*◌, arith, ◌∙◌}
use Rattle.std.proofs.lemmas.List.{length-set}
use Rattle.gv_gtt.specs.Gtt.{over}
use Rattle.gv_private.specs.Load.{global_space}
use Rattle.gv_vgpu.proofs.Images.{more-read}
use Rattle.gv_vgpu.proofs.fetch.image_page.Goals as goal

pub loop-n-preserved : goal.loop-n-preserved
loop-n-preserved g c = record {
  long = length-set c.loop-n.dwords c.loop-n.n c.read_dword.result ∙ c.loop-n.invariant.long;
  read = λ p.
      more-read c.loop-n.dwords (λ k. (global_space (over p (g.G.Gpu.state c.args.gpu.now) c.args.gtt.now)).word ((c.args.page + 1) * 4096 + 4 * k)) c.loop-n.n c.read_dword.result
      (omega arith) (c.read_dword.ensures p ∙ (λ i. (global_space (over p (g.G.Gpu.state c.args.gpu.now) c.args.gtt.now)).word ((c.from.ensures i + 1) * 4096 + 4 * c.loop-n.n))) (c.loop-n.invariant.read p);
}
