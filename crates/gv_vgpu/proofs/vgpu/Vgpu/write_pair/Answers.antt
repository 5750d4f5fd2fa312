use Rattle.std.proofs.Common.{◌+◌, arith}
use Rattle.gv_gpu.proofs.Changes.{changes-more}
use Rattle.std.proofs.lemmas.Result.{err_from_is_err_and}
use Rattle.gv_private.specs.Registers.{dword_written}
use Rattle.gv_vgpu.specs.Vgpu.{private_of}
use Rattle.gv_vgpu.specs.Owners.{is_here}
use Rattle.gv_vgpu.proofs.Own.{stops-then}
use Rattle.gv_vgpu.proofs.BesideNotify.{front-plain}
use Rattle.gv_vgpu.proofs.Unsubmitted.{access-engines, engines-then}
use Rattle.gv_vgpu.proofs.Plain.{access-then}
use Rattle.gv_vgpu.proofs.Pairs.{both, faults-first, faults-second, first-alone}
use Rattle.gv_vgpu.proofs.vgpu.Vgpu.write_pair.Goals as goal

pub returns-in_err-first-clause-faults : goal.returns-in_err-first-clause-faults
returns-in_err-first-clause-faults g c =
    let p = err_from_is_err_and c.from_residual.result c.from_residual.ensures.1 in rw (p.1, p.2)
    (λ stopped. faults-first (private_of (g.G.Gpu.state c.args.gpu.now) c.args.self.now (is_here c.args.here)) c.args.offset c.args.low c.args.high (c.in_err-first.ensures.faults stopped))

pub returns-then-self-clause-written : goal.returns-then-self-clause-written
returns-then-self-clause-written g c =
    let old = c.args.self.now in
    let d = g.G.Gpu.state c.args.gpu.now in
    let here = is_here c.args.here in
    first-alone here d (g.G.Gpu.state c.write_dword.new.gpu) old c.write_dword.new.self (dword_written (private_of d old here) c.args.offset c.args.low) (λ q. dword_written q (c.args.offset + 4) c.args.high)
    c.in_ok-first.first c.in_ok-first.ensures.written c.if-self.true

pub returns-in_err-second-clause-stops : goal.returns-in_err-second-clause-stops
returns-in_err-second-clause-stops g c =
    let p = err_from_is_err_and c.from_residual-in_err-second.result c.from_residual-in_err-second.ensures.1 in rw (p.1, p.2)
    (stops-then (is_here c.args.here) (g.G.Gpu.state c.args.gpu.now) (g.G.Gpu.state c.write_dword.new.gpu) (g.G.Gpu.state c.write_dword-2.new.gpu) c.args.self.now c.write_dword.new.self c.in_err-second.field-0.0
    c.in_ok-first.ensures.written.keeps.changes c.in_err-second.ensures.stops)

pub returns-in_err-second-clause-faults : goal.returns-in_err-second-clause-faults
returns-in_err-second-clause-faults g c =
    let p = err_from_is_err_and c.from_residual-in_err-second.result c.from_residual-in_err-second.ensures.1 in rw (p.1, p.2)
    (λ stopped. faults-second (is_here c.args.here) (g.G.Gpu.state c.args.gpu.now) (g.G.Gpu.state c.write_dword.new.gpu) c.args.self.now c.write_dword.new.self c.args.offset c.args.low c.args.high c.in_ok-first.first
    c.in_ok-first.ensures.written c.if-self.false (c.in_err-second.ensures.faults stopped))

pub returns-clause-written : goal.returns-clause-written
returns-clause-written g c =
    let old = c.args.self.now in
    let d = g.G.Gpu.state c.args.gpu.now in
    let here = is_here c.args.here in
    both here d (g.G.Gpu.state c.write_dword.new.gpu) old c.write_dword.new.self (dword_written (private_of d old here) c.args.offset c.args.low) (λ q. dword_written q (c.args.offset + 4) c.args.high)
    c.in_ok-first.first c.in_ok-first.ensures.written (g.G.Gpu.state c.write_dword-2.new.gpu) c.write_dword-2.new.self c.in_ok-second.second c.then.result c.if-self.false c.in_ok-second.ensures.written c.then.ensures.irq c.then.ensures.failsafe

pub returns-then-self-clause-part : goal.returns-then-self-clause-part
returns-then-self-clause-part g c = λ plain. changes-more 6 (omega arith) (c.in_ok-first.ensures.part plain.0)

pub returns-clause-part : goal.returns-clause-part
returns-clause-part g c = λ plain.
    let keeps = c.in_ok-first.ensures.written.keeps in
    access-then 3 3 (g.G.Gpu.state c.args.gpu.now) (g.G.Gpu.state c.write_dword.new.gpu) (g.G.Gpu.state c.write_dword-2.new.gpu) c.args.self.now c.write_dword.new.self keeps.changes.number keeps.changes.ranges
    (c.in_ok-first.ensures.part plain.0) (c.in_ok-second.ensures.part plain.1)

pub returns-in_err-second-clause-unsubmitted : goal.returns-in_err-second-clause-unsubmitted
returns-in_err-second-clause-unsubmitted g c =
    let p = err_from_is_err_and c.from_residual-in_err-second.result c.from_residual-in_err-second.ensures.1 in rw (p.1, p.2)
    (λ stopped. engines-then (g.G.Gpu.state c.args.gpu.now) (g.G.Gpu.state c.write_dword.new.gpu) (g.G.Gpu.state c.write_dword-2.new.gpu)
    (access-engines 3 (g.G.Gpu.state c.args.gpu.now) (g.G.Gpu.state c.write_dword.new.gpu) c.args.self.now (c.in_ok-first.ensures.part (front-plain c.args.offset (c.in_err-second.ensures.lacks stopped))))
    (c.in_err-second.ensures.unsubmitted stopped))
