use Rattle.std.proofs.Common.{◌∙◌, ap, sym}
use Rattle.gv_vgpu.specs.Vgpu.{engine_at}
use Rattle.gv_vgpu.specs.Owners.{is_here}
use Rattle.gv_vgpu.proofs.Clearing.{is-reset, ready, rests-then}
use Rattle.gv_vgpu.proofs.vgpu.Vgpu.reset_engine.Goals as goal
use Rattle.gv_vgpu.proofs.vgpu.Vgpu.reset_engine.Goals.{then-here-engine+in_ok-take_off, else-here-engine}

pub clear_engine-requires-clause-rests : goal.clear_engine-requires-clause-rests
clear_engine-requires-clause-rests g c =
    let d = g.G.Gpu.state c.args.gpu.now in
    let element = (engine_at c.args.self.now c.args.engine.0).element in
    rests-then d c.args.self.now (is_here c.args.here) c.args.engine.0 c.requires.engine c.requires.occupies (g.G.Gpu.state c.if-here-engine.gpu)
    (elim c.if-here-engine.branch [
      | then-here-engine+in_ok-take_off w ↦ ap g.G.Gpu.state w.gpu-is ∙ w.in_ok-take_off.ensures.ok ∙ sym (ap (ready d c.args.engine.0 element) w.if-here-engine.true)
      | else-here-engine w ↦ ap g.G.Gpu.state w.gpu-is ∙ sym (ap (ready d c.args.engine.0 element) w.if-here-engine.false)
    ])

pub returns-clause-reset : goal.returns-clause-reset
returns-clause-reset g c =
    let d = g.G.Gpu.state c.args.gpu.now in
    let element = (engine_at c.args.self.now c.args.engine.0).element in
    is-reset d (g.G.Gpu.state c.if-here-engine.gpu) (g.G.Gpu.state c.clear_engine.new.gpu) c.args.self.now c.clear_engine.new.self (is_here c.args.here) c.args.engine.0 c.requires.engine c.requires.occupies
    (elim c.if-here-engine.branch [
      | then-here-engine+in_ok-take_off w ↦ ap g.G.Gpu.state w.gpu-is ∙ w.in_ok-take_off.ensures.ok ∙ sym (ap (ready d c.args.engine.0 element) w.if-here-engine.true)
      | else-here-engine w ↦ ap g.G.Gpu.state w.gpu-is ∙ sym (ap (ready d c.args.engine.0 element) w.if-here-engine.false)
    ])
    c.clear_engine.ensures.gone c.clear_engine.ensures.gtt c.clear_engine.ensures.mmio c.clear_engine.ensures.failsafe c.clear_engine.ensures.own c.clear_engine.ensures.others
