use Rattle.std.proofs.Common.{arith, refl, sym, ◌∙◌, subst}
use Rattle.std.proofs.lemmas.Result.{err_from_is_err_and}
use Rattle.gv_types.specs.declared.reply.Stop.TheVariants.{DeviceFault}
use Rattle.gv_vgpu.specs.Access.{AccessMayFault, AccessMayLackMemory}
use Rattle.gv_vgpu.specs.Changes.{replied}
use Rattle.gv_gpu.proofs.Changes.{changes-more}
use Rattle.gv_vgpu.specs.Plain.{IsPlain, ReadsAlone}
use Rattle.gv_vgpu.specs.Vgpu.{private_of}
use Rattle.gv_vgpu.specs.Owners.{is_here}
use Rattle.gv_vgpu.proofs.Stopping.{err-again}
use Rattle.gv_vgpu.proofs.Moves.{move-replies, write-replies}
use Rattle.gv_vgpu.proofs.Plain.{access-frames, access-none}
use Rattle.gv_vgpu.proofs.vgpu.Vgpu.access.Goals as goal

pub returns-in_err-notice-in-Write-clause-faults : goal.returns-in_err-notice-in-Write-clause-faults
returns-in_err-notice-in-Write-clause-faults g c =
    let p = err_from_is_err_and c.from_residual.result c.from_residual.ensures.1 in rw (p.1, p.2)
    (λ stopped. subst (λ event. AccessMayFault (private_of (g.G.Gpu.state c.args.gpu.now) c.args.self.now (is_here c.args.here)) event) (sym c.in-Write.is) (c.in_err-notice-in-Write.ensures.faults (err-again c.in_err-notice-in-Write.field-0.0 DeviceFault stopped)))

pub returns-in_ok-answer-in-Move-clause-replies : goal.returns-in_ok-answer-in-Move-clause-replies
returns-in_ok-answer-in-Move-clause-replies g c =
    move-replies (is_here c.args.here) (g.G.Gpu.state c.args.gpu.now) (g.G.Gpu.state c.move_page.new.gpu) c.args.self.now c.move_page.new.self c.args.event.now c.in-Move.guest c.in-Move.frame c.in_ok-answer-in-Move.answer
    c.reply-in-Move.result c.in-Move.is c.in_ok-answer-in-Move.ensures.answer c.in_ok-answer-in-Move.ensures.device c.in_ok-answer-in-Move.ensures.keeps
    (c.reply-in-Move.ensures ∙ (λ i. replied c.in-Move.guest c.in_ok-answer-in-Move.answer (c.none-in-Move.ensures i)))

pub returns-in-Read-clause-part : goal.returns-in-Read-clause-part
returns-in-Read-clause-part g c = λ plain. access-none 512 (g.G.Gpu.state c.args.gpu.now) c.args.self.now

pub returns-in_ok-notice-in-Write-clause-part : goal.returns-in_ok-notice-in-Write-clause-part
returns-in_ok-notice-in-Write-clause-part g c = λ plain.
    changes-more 512 (omega arith) (c.in_ok-notice-in-Write.ensures.part (subst (λ event. IsPlain (private_of (g.G.Gpu.state c.args.gpu.now) c.args.self.now (is_here c.args.here)) event) c.in-Write.is plain))

pub returns-in_ok-answer-in-Move-clause-part : goal.returns-in_ok-answer-in-Move-clause-part
returns-in_ok-answer-in-Move-clause-part g c = λ plain. access-frames 512 512 (g.G.Gpu.state c.args.gpu.now) (g.G.Gpu.state c.move_page.new.gpu) c.args.self.now (omega arith) c.in_ok-answer-in-Move.ensures.part

pub returns-in-Read-clause-reads : goal.returns-in-Read-clause-reads
returns-in-Read-clause-reads g c =
    let d = g.G.Gpu.state c.args.gpu.now in
    subst (λ event. ReadsAlone d d c.args.self.now c.args.self.now event) (sym c.in-Read.is) (refl, refl)

pub returns-in_ok-notice-in-Write-clause-reads : goal.returns-in_ok-notice-in-Write-clause-reads
returns-in_ok-notice-in-Write-clause-reads g c =
    subst (λ event. ReadsAlone (g.G.Gpu.state c.args.gpu.now) (g.G.Gpu.state c.write.new.gpu) c.args.self.now c.write.new.self event) (sym c.in-Write.is) tt

pub returns-in_ok-answer-in-Move-clause-reads : goal.returns-in_ok-answer-in-Move-clause-reads
returns-in_ok-answer-in-Move-clause-reads g c =
    subst (λ event. ReadsAlone (g.G.Gpu.state c.args.gpu.now) (g.G.Gpu.state c.move_page.new.gpu) c.args.self.now c.move_page.new.self event) (sym c.in-Move.is) tt

pub returns-in_err-answer-in-Move-clause-lacks : goal.returns-in_err-answer-in-Move-clause-lacks
returns-in_err-answer-in-Move-clause-lacks g c =
    let p = err_from_is_err_and c.from_residual-in_err-answer-in-Move.result c.from_residual-in_err-answer-in-Move.ensures.1 in rw (p.1, p.2)
    (λ lack. subst (λ event. AccessMayLackMemory (private_of (g.G.Gpu.state c.args.gpu.now) c.args.self.now (is_here c.args.here)) event) (sym c.in-Move.is) c.in_err-answer-in-Move.ensures.lacks)

pub returns-in_ok-notice-in-Write-clause-replies : goal.returns-in_ok-notice-in-Write-clause-replies
returns-in_ok-notice-in-Write-clause-replies g c =
    write-replies (is_here c.args.here) (g.G.Gpu.state c.args.gpu.now) (g.G.Gpu.state c.write.new.gpu) c.args.self.now c.write.new.self c.args.event.now c.in-Write.guest c.in-Write.place c.in-Write.width c.in-Write.at c.in-Write.value
    c.in_ok-notice-in-Write.notice c.reply-in-Write.result c.in-Write.is c.in_ok-notice-in-Write.ensures.written c.reply-in-Write.ensures
