use Rattle.std.proofs.Common.{refl, sym, ◌∙◌, None, subst, ◌<◌, length}
use Rattle.gv_vgpu.specs.Vgpu.{private_of}
use Rattle.gv_vgpu.specs.declared.vgpu.Vgpu.{Vgpu}
use Rattle.gv_vgpu.proofs.Registers.{moved-keeps, registers-moved}
use Rattle.gv_vgpu.proofs.vgpu.Vgpu.raise.Goals as goal

pub returns : goal.returns
returns c = λ d here holds.
    let old = c.args.self.now in
    let new : Vgpu = record { gtt = old.gtt; mmio = c.raise.new.self; failsafe = old.failsafe; engines = old.engines; four = c.self-1.given.0 } in
    record {
      written = c.raise.ensures.raised (private_of d old here) ∙ (λ i. record { device = sym (registers-moved d old new here holds refl refl refl) i; irq = c.raise.result; reason = None });
      keeps = moved-keeps d old new here holds refl refl refl c.raise.ensures.same
          (λ k x at runs. subst (λ slots. 0 < length slots.running) (λ i. ((c.raise.ensures.raised (private_of d old here) i).device.engines k).slots) runs);
    }
