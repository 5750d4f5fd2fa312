use Rattle.std.proofs.Common.{arith, refl, subst}
use Rattle.std.proofs.lemmas.Result.{on_ok_weaker}
use Rattle.gv_gpu.proofs.Changes.{changes-more}
use Rattle.gv_vgpu.specs.Plain.{IsPlainAt}
use Rattle.gv_vgpu.specs.Vgpu.{private_of}
use Rattle.gv_vgpu.specs.Owners.{is_here}
use Rattle.gv_vgpu.proofs.Pairs.{faults-eight, faults-four}
use Rattle.gv_vgpu.proofs.vgpu.Vgpu.write_dwords.Goals as goal

pub returns-in-Four-clause-faults : goal.returns-in-Four-clause-faults
returns-in-Four-clause-faults g c = λ stopped.
    faults-four (private_of (g.G.Gpu.state c.args.gpu.now) c.args.self.now (is_here c.args.here)) c.args.width c.args.offset c.args.value c.in-Four.is c.requires.awake c.requires.below (c.write_dword.ensures.faults stopped)

pub returns-in-Eight-clause-faults : goal.returns-in-Eight-clause-faults
returns-in-Eight-clause-faults g c = λ stopped.
    faults-eight (private_of (g.G.Gpu.state c.args.gpu.now) c.args.self.now (is_here c.args.here)) c.args.width c.args.offset c.args.value _ _ c.in-Eight.is c.requires.awake c.requires.below refl (c.write_pair.ensures.faults stopped)

pub returns-in-Four-clause-part : goal.returns-in-Four-clause-part
returns-in-Four-clause-part g c =
    on_ok_weaker c.write_dword.result (λ part plain. changes-more 6 (omega arith) (part (subst (λ width. IsPlainAt width c.args.offset) c.in-Four.is plain))) c.write_dword.ensures.part

pub returns-in-Eight-clause-part : goal.returns-in-Eight-clause-part
returns-in-Eight-clause-part g c = on_ok_weaker c.write_pair.result (λ part plain. part (subst (λ width. IsPlainAt width c.args.offset) c.in-Eight.is plain)) c.write_pair.ensures.part
