use Rattle.std.proofs.Common.{◌∙◌, ap}
use Rattle.gv_gpu.specs.Device.{with_engine_general}
use Rattle.gv_vgpu.proofs.Zeros.{zeroed-none, zeroed-more}
use Rattle.gv_vgpu.proofs.reset.zero_general.Goals as goal

pub loop-n-init : goal.loop-n-init
loop-n-init g c = zeroed-none (g.G.Gpu.state c.args.gpu.now) c.args.engine.0

pub loop-n-preserved : goal.loop-n-preserved
loop-n-preserved g c = c.set_general.ensures ∙ ap (λ d. with_engine_general d c.args.engine.0 c.loop-n.n 0) c.loop-n.invariant ∙ zeroed-more (g.G.Gpu.state c.args.gpu.now) c.args.engine.0 c.loop-n.n
