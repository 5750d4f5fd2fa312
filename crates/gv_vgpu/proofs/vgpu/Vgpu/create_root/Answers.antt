use Rattle.std.proofs.Common.{Err, is_some, refl}
use Rattle.gv_types.specs.declared.reply.Reason.TheVariants.{Entry}
use Rattle.gv_types.specs.declared.reply.Stop.{Stop}
use Rattle.gv_types.specs.declared.reply.Stop.TheVariants.{DeviceFault}
use Rattle.gv_gtt.proofs.Others.{changes_stay_inside}
use Rattle.gv_private.specs.Device.{fails}
use Rattle.gv_private.specs.Roots.{left_or_failed, root_created}
use Rattle.gv_vgpu.specs.Changes.{Makes, Stops}
use Rattle.gv_vgpu.specs.Vgpu.{private_of}
use Rattle.gv_vgpu.specs.Owners.{is_here}
use Rattle.gv_vgpu.specs.declared.vgpu.Vgpu.{Vgpu}
use Rattle.gv_vgpu.proofs.Failing.{may-fail-after}
use Rattle.gv_vgpu.proofs.Own.{stops-then}
use Rattle.gv_vgpu.proofs.Roots.{refused-here, root-created, root-refused}
use Rattle.gv_vgpu.proofs.Stopping.{err-of, if-ok, ok-of, on-err, stops-without}
use Rattle.gv_vgpu.proofs.Unsubmitted.{fault-lacks-none, tables-engines}
use Rattle.gv_vgpu.proofs.vgpu.Vgpu.create_root.Goals as goal

pub fail-requires : goal.fail-requires
fail-requires g c =
    let old = c.args.self.now in
    let new : Vgpu = record { gtt = c.create_root.new.self; mmio = old.mmio; failsafe = old.failsafe; engines = old.engines; four = c.self-1.given.0 } in
    record {
      occupies = (may-fail-after (g.G.Gpu.state c.args.gpu.now) (g.G.Gpu.state c.create_root.new.gpu) old new (is_here c.args.here) c.requires c.create_root.ensures.changes refl refl refl c.create_root.ensures.stands).occupies;
    }

pub returns-in-Ok-clause-created : goal.returns-in-Ok-clause-created
returns-in-Ok-clause-created g c =
    let old = c.args.self.now in
    let new : Vgpu = record { gtt = c.create_root.new.self; mmio = old.mmio; failsafe = old.failsafe; engines = old.engines; four = c.self-1.given.0 } in
    root-created (g.G.Gpu.state c.args.gpu.now) (g.G.Gpu.state c.create_root.new.gpu) old new (is_here c.args.here) c.requires c.create_root.ensures.changes refl refl refl
    c.args.root c.in-Ok.ensures.translates c.in-Ok.ensures.stay c.in-Ok.ensures.device c.none.result c.none.ensures

pub returns-in-Err-OutOfMemory-clause-stops : goal.returns-in-Err-OutOfMemory-clause-stops
returns-in-Err-OutOfMemory-clause-stops g c =
    stops-without (is_here c.args.here) (g.G.Gpu.state c.args.gpu.now) (g.G.Gpu.state c.create_root.new.gpu) c.args.self.now Stop.OutOfMemory
    (changes_stay_inside (g.G.Gpu.state c.args.gpu.now) (g.G.Gpu.state c.create_root.new.gpu) c.args.self.now.gtt c.create_root.new.self (is_here c.args.here) c.create_root.ensures.changes) (λ is. cc)

pub returns-in-Err-BadEntry-clause-created : goal.returns-in-Err-BadEntry-clause-created
returns-in-Err-BadEntry-clause-created g c =
    let old = c.args.self.now in
    let new : Vgpu = record { gtt = c.create_root.new.self; mmio = old.mmio; failsafe = old.failsafe; engines = old.engines; four = c.self-1.given.0 } in
    let d = g.G.Gpu.state c.args.gpu.now in
    let e = g.G.Gpu.state c.create_root.new.gpu in
    let f = g.G.Gpu.state c.fail.new.gpu in
    let here = is_here c.args.here in
    ok-of c.fail.result c.or_stop.result (λ notice. Makes here d f old c.fail.new.self (root_created (private_of d old here) c.args.root) notice) c.or_stop.ensures.ok
    (if-ok c.fail.result (λ notice. Makes here e f new c.fail.new.self (fails (private_of e new here) Entry) notice)
    (λ notice. Makes here d f old c.fail.new.self (root_created (private_of d old here) c.args.root) notice)
    (λ notice made. root-refused d e old new here c.requires c.create_root.ensures.changes refl refl refl c.args.root f c.fail.new.self notice c.create_root.ensures.stands c.create_root.ensures.memory
    (refused-here d old here c.args.root c.requires (c.in-Err-BadEntry.ensures.bad (λ i. Err (c.in-Err-BadEntry.field-0-is i)))) made)
    c.fail.ensures.failed)

pub returns-in-Err-BadEntry-clause-stops : goal.returns-in-Err-BadEntry-clause-stops
returns-in-Err-BadEntry-clause-stops g c =
    let old = c.args.self.now in
    let new : Vgpu = record { gtt = c.create_root.new.self; mmio = old.mmio; failsafe = old.failsafe; engines = old.engines; four = c.self-1.given.0 } in
    let d = g.G.Gpu.state c.args.gpu.now in
    let e = g.G.Gpu.state c.create_root.new.gpu in
    let f = g.G.Gpu.state c.fail.new.gpu in
    let here = is_here c.args.here in
    err-of c.fail.result c.or_stop.result (λ stop. Stops here d f old stop) c.or_stop.ensures.fault
    (on-err c.fail.result (Stops here e f new DeviceFault) (Stops here d f old DeviceFault)
    (λ stops. stops-then here d e f old new DeviceFault (may-fail-after d e old new here c.requires c.create_root.ensures.changes refl refl refl c.create_root.ensures.stands).changes stops)
    c.fail.ensures.faults)

pub returns-in-Err-BadEntry-clause-listed : goal.returns-in-Err-BadEntry-clause-listed
returns-in-Err-BadEntry-clause-listed g c = λ stopped.
    let d = g.G.Gpu.state c.args.gpu.now in
    let old = c.args.self.now in
    let here = is_here c.args.here in
    let refused = refused-here d old here c.args.root c.requires (c.in-Err-BadEntry.ensures.bad (λ i. Err (c.in-Err-BadEntry.field-0-is i))) in
    λ i. is_some (left_or_failed (private_of d old here) (refused i)).reason

pub returns-in-Err-OutOfMemory-clause-unsubmitted : goal.returns-in-Err-OutOfMemory-clause-unsubmitted
returns-in-Err-OutOfMemory-clause-unsubmitted g c = λ lack. tables-engines (g.G.Gpu.state c.args.gpu.now) (g.G.Gpu.state c.create_root.new.gpu) c.args.self.now.gtt c.create_root.new.self c.create_root.ensures.changes

pub returns-in-Err-BadEntry-clause-unsubmitted : goal.returns-in-Err-BadEntry-clause-unsubmitted
returns-in-Err-BadEntry-clause-unsubmitted g c = fault-lacks-none c.fail.result c.or_stop.result _ c.or_stop.ensures.fault
