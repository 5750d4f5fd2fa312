use Rattle.std.proofs.Common.{◌<◌, refl, sym, ◌∙◌, subst, length}
use Rattle.gv_vgpu.specs.Vgpu.{private_of}
use Rattle.gv_vgpu.specs.declared.vgpu.Vgpu.{Vgpu}
use Rattle.gv_vgpu.proofs.Registers.{moved-keeps, registers-moved, ring-runs}
use Rattle.gv_vgpu.proofs.vgpu.Vgpu.push.Goals as goal

pub returns-clause-device : goal.returns-clause-device
returns-clause-device c = λ d here holds.
    let old = c.args.self.now in
    let new : Vgpu = record { gtt = old.gtt; mmio = c.push.new.self; failsafe = old.failsafe; engines = old.engines; four = c.self-1.given.0 } in
    registers-moved d old new here holds refl refl refl ∙ c.push.ensures.device (private_of d old here)

pub returns-clause-keeps : goal.returns-clause-keeps
returns-clause-keeps c = λ d here holds.
    let old = c.args.self.now in
    let new : Vgpu = record { gtt = old.gtt; mmio = c.push.new.self; failsafe = old.failsafe; engines = old.engines; four = c.self-1.given.0 } in
    moved-keeps d old new here holds refl refl refl c.push.ensures.same
    (λ k x at runs. subst (λ slots. 0 < length slots.running) (sym (λ i. ((c.push.ensures.device (private_of d old here) i).engines k).slots)) (ring-runs (private_of d old here) c.args.engine.0 k c.args.status runs))

pub returns-clause-index : goal.returns-clause-index
returns-clause-index c = λ d here holds.
    c.push.ensures.index (private_of d c.args.self.now here) ∙ (λ i. ((c.push.ensures.device (private_of d c.args.self.now here) i).engines c.args.engine.0).slots.write)
