use Rattle.std.proofs.Common.{ap, ◌∙◌, arith}
use Rattle.std.proofs.lemmas.List.{length-set}
use Rattle.gv_private.specs.Work.{has_work}
use Rattle.gv_vgpu.specs.Vgpu.{private_of}
use Rattle.gv_vgpu.specs.declared.vgpu.Vgpu.{Vgpu}
use Rattle.gv_mediator.proofs.Works.{works-all, works-more}
use Rattle.gv_mediator.proofs.switch.works_on.Goals as goal

pub loop-number-preserved : goal.loop-number-preserved
loop-number-preserved c = record {
  eight = length-set c.loop-number.works c.loop-number.number c.has_work.result ∙ c.loop-number.invariant.eight;
  each = works-more c.loop-number.works c.args.guests.now c.args.engine.0 c.loop-number.number c.index-guests-number.result c.has_work.result (omega arith) (omega arith) c.loop-number.invariant.each
      (λ d here. c.has_work.ensures d here ∙ ap (λ (v : Vgpu). has_work c.args.engine.0 (private_of d v here)) c.index-guests-number.is);
}

pub returns : goal.returns
returns c = λ d owners. works-all c.loop-number.works c.args.guests.now c.args.engine.0 d owners (omega arith) (λ k v e here h at. c.loop-number.invariant.each k v e here (omega arith) at)
