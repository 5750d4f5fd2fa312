use Rattle.std.proofs.Common.{Err, arith, refl}
use Rattle.std.proofs.lemmas.Bool.{false≢true}
use Rattle.gv_types.specs.declared.reply.Reason.TheVariants.{Entry}
use Rattle.gv_types.specs.declared.reply.Stop.{Stop}
use Rattle.gv_types.specs.declared.reply.Stop.TheVariants.{DeviceFault}
use Rattle.gv_gtt.proofs.Others.{changes_stay_inside}
use Rattle.gv_private.specs.Access.{memory_written}
use Rattle.gv_private.specs.Device.{fails}
use Rattle.gv_vgpu.specs.Changes.{Makes, Stops}
use Rattle.gv_vgpu.specs.Vgpu.{private_of}
use Rattle.gv_vgpu.specs.Owners.{is_here}
use Rattle.gv_vgpu.specs.declared.vgpu.Vgpu.{Vgpu}
use Rattle.gv_vgpu.proofs.Failing.{may-fail-after}
use Rattle.gv_vgpu.proofs.Own.{stops-then}
use Rattle.gv_vgpu.proofs.Plain.{access-frames, ok-anyway}
use Rattle.gv_vgpu.proofs.Words.{bad-written, good-written}
use Rattle.gv_vgpu.proofs.Stopping.{err-of, if-ok, ok-of, on-err, stops-without}
use Rattle.gv_vgpu.proofs.Unsubmitted.{fault-lacks-none, tables-engines}
use Rattle.gv_vgpu.proofs.vgpu.Vgpu.write_memory.Goals as goal

pub fail-requires : goal.fail-requires
fail-requires g c =
    let old = c.args.self.now in
    let new : Vgpu = record { gtt = c.write.new.self; mmio = old.mmio; failsafe = old.failsafe; engines = old.engines; four = c.self-1.given.0 } in
    record {
      occupies = (may-fail-after (g.G.Gpu.state c.args.gpu.now) (g.G.Gpu.state c.write.new.gpu) old new (is_here c.args.here) c.requires.holds c.write.ensures.changes refl refl refl c.write.ensures.stands).occupies;
    }

pub returns-in-Ok-clause-written : goal.returns-in-Ok-clause-written
returns-in-Ok-clause-written g c =
    let old = c.args.self.now in
    let new : Vgpu = record { gtt = c.write.new.self; mmio = old.mmio; failsafe = old.failsafe; engines = old.engines; four = c.self-1.given.0 } in
    good-written (g.G.Gpu.state c.args.gpu.now) (g.G.Gpu.state c.write.new.gpu) old new (is_here c.args.here) c.requires.holds c.write.ensures.changes refl refl refl
    c.args.width c.args.at c.args.value c.write.ensures.memory c.in-Ok.ensures.translates c.in-Ok.ensures.shadow_roots c.in-Ok.ensures.good c.in-Ok.ensures.device c.none.result c.none.ensures

pub returns-in-Err-OutOfMemory-clause-stops : goal.returns-in-Err-OutOfMemory-clause-stops
returns-in-Err-OutOfMemory-clause-stops g c =
    stops-without (is_here c.args.here) (g.G.Gpu.state c.args.gpu.now) (g.G.Gpu.state c.write.new.gpu) c.args.self.now Stop.OutOfMemory
    (changes_stay_inside (g.G.Gpu.state c.args.gpu.now) (g.G.Gpu.state c.write.new.gpu) c.args.self.now.gtt c.write.new.self (is_here c.args.here) c.write.ensures.changes) (λ is. cc)

pub returns-in-Err-BadEntry-clause-written : goal.returns-in-Err-BadEntry-clause-written
returns-in-Err-BadEntry-clause-written g c =
    let old = c.args.self.now in
    let new : Vgpu = record { gtt = c.write.new.self; mmio = old.mmio; failsafe = old.failsafe; engines = old.engines; four = c.self-1.given.0 } in
    let d = g.G.Gpu.state c.args.gpu.now in
    let e = g.G.Gpu.state c.write.new.gpu in
    let f = g.G.Gpu.state c.fail.new.gpu in
    let here = is_here c.args.here in
    ok-of c.fail.result c.or_stop.result (λ notice. Makes here d f old c.fail.new.self (memory_written (private_of d old here) c.args.width c.args.at c.args.value) notice) c.or_stop.ensures.ok
    (if-ok c.fail.result (λ notice. Makes here e f new c.fail.new.self (fails (private_of e new here) Entry) notice)
    (λ notice. Makes here d f old c.fail.new.self (memory_written (private_of d old here) c.args.width c.args.at c.args.value) notice)
    (λ notice made. bad-written d e old new here c.requires.holds c.write.ensures.changes refl refl refl c.args.width c.args.at c.args.value c.write.ensures.memory f c.fail.new.self notice c.write.ensures.stands
    (c.in-Err-BadEntry.ensures.bad (λ i. Err (c.in-Err-BadEntry.field-0-is i))) made)
    c.fail.ensures.failed)

pub returns-in-Err-BadEntry-clause-stops : goal.returns-in-Err-BadEntry-clause-stops
returns-in-Err-BadEntry-clause-stops g c =
    let old = c.args.self.now in
    let new : Vgpu = record { gtt = c.write.new.self; mmio = old.mmio; failsafe = old.failsafe; engines = old.engines; four = c.self-1.given.0 } in
    let d = g.G.Gpu.state c.args.gpu.now in
    let e = g.G.Gpu.state c.write.new.gpu in
    let f = g.G.Gpu.state c.fail.new.gpu in
    let here = is_here c.args.here in
    err-of c.fail.result c.or_stop.result (λ stop. Stops here d f old stop) c.or_stop.ensures.fault
    (on-err c.fail.result (Stops here e f new DeviceFault) (Stops here d f old DeviceFault)
    (λ stops. stops-then here d e f old new DeviceFault (may-fail-after d e old new here c.requires.holds c.write.ensures.changes refl refl refl c.write.ensures.stands).changes stops)
    c.fail.ensures.faults)

pub returns-in-Ok-clause-part : goal.returns-in-Ok-clause-part
returns-in-Ok-clause-part g c = λ plain. access-frames 1 6 (g.G.Gpu.state c.args.gpu.now) (g.G.Gpu.state c.write.new.gpu) c.args.self.now (omega arith) (c.write.ensures.part plain)

pub returns-in-Err-BadEntry-clause-part : goal.returns-in-Err-BadEntry-clause-part
returns-in-Err-BadEntry-clause-part g c =
    ok-anyway c.or_stop.result _
    (λ plain. absurd (false≢true (c.in-Err-BadEntry.ensures.beside plain)))

pub returns-in-Err-OutOfMemory-clause-unsubmitted : goal.returns-in-Err-OutOfMemory-clause-unsubmitted
returns-in-Err-OutOfMemory-clause-unsubmitted g c = λ lack. tables-engines (g.G.Gpu.state c.args.gpu.now) (g.G.Gpu.state c.write.new.gpu) c.args.self.now.gtt c.write.new.self c.write.ensures.changes

pub returns-in-Err-BadEntry-clause-unsubmitted : goal.returns-in-Err-BadEntry-clause-unsubmitted
returns-in-Err-BadEntry-clause-unsubmitted g c = fault-lacks-none c.fail.result c.or_stop.result _ c.or_stop.ensures.fault
