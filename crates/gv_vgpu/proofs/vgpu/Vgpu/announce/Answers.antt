use Rattle.std.proofs.Common.{Err, refl}
use Rattle.gv_vgpu.specs.Vgpu.{private_of}
use Rattle.gv_vgpu.specs.Owners.{is_here}
use Rattle.gv_vgpu.specs.declared.vgpu.Vgpu.{Vgpu}
use Rattle.gv_vgpu.proofs.Announced.{lacks-memory, room-stays, root-announced, root-refused, roots-stay}
use Rattle.gv_vgpu.proofs.Unsubmitted.{tables-engines}
use Rattle.gv_vgpu.proofs.Written.{keeps-after}
use Rattle.gv_gtt.proofs.Others.{changes_stay_inside}
use Rattle.gv_vgpu.proofs.vgpu.Vgpu.announce.Goals as goal

pub returns-in-Ok-clause-device : goal.returns-in-Ok-clause-device
returns-in-Ok-clause-device g c =
    let d = g.G.Gpu.state c.args.gpu.now in
    let old = c.args.self.now in
    let new : Vgpu = record { gtt = c.create_root.new.self; mmio = old.mmio; failsafe = old.failsafe; engines = old.engines; four = c.self-1.given.0 } in
    root-announced d (g.G.Gpu.state c.create_root.new.gpu) old new (is_here c.args.here) c.requires c.create_root.ensures.changes refl refl refl c.args.root
    (c.in-Ok.ensures.device (private_of d old (is_here c.args.here)))

pub returns-in-Ok-clause-keeps : goal.returns-in-Ok-clause-keeps
returns-in-Ok-clause-keeps g c =
    let d = g.G.Gpu.state c.args.gpu.now in
    let e = g.G.Gpu.state c.create_root.new.gpu in
    let old = c.args.self.now in
    let new : Vgpu = record { gtt = c.create_root.new.self; mmio = old.mmio; failsafe = old.failsafe; engines = old.engines; four = c.self-1.given.0 } in
    keeps-after d e old new (is_here c.args.here) c.requires c.create_root.ensures.changes refl refl refl c.in-Ok.ensures.translates
    (roots-stay d e old.gtt new.gtt c.requires.translates.serving.stands c.create_root.ensures.stands c.in-Ok.ensures.stay)

pub returns-in-Ok-clause-room : goal.returns-in-Ok-clause-room
returns-in-Ok-clause-room g c =
    let old = c.args.self.now in
    let new : Vgpu = record { gtt = c.create_root.new.self; mmio = old.mmio; failsafe = old.failsafe; engines = old.engines; four = c.self-1.given.0 } in
    room-stays (g.G.Gpu.state c.args.gpu.now) (g.G.Gpu.state c.create_root.new.gpu) old new c.requires.translates.serving.stands c.create_root.ensures.changes

pub returns-in-Err-OutOfMemory-clause-refuses : goal.returns-in-Err-OutOfMemory-clause-refuses
returns-in-Err-OutOfMemory-clause-refuses g c =
    let d = g.G.Gpu.state c.args.gpu.now in
    let e = g.G.Gpu.state c.create_root.new.gpu in
    lacks-memory (is_here c.args.here) d e c.args.self.now (changes_stay_inside d e c.args.self.now.gtt c.create_root.new.self (is_here c.args.here) c.create_root.ensures.changes)

pub returns-in-Err-BadEntry-clause-refuses : goal.returns-in-Err-BadEntry-clause-refuses
returns-in-Err-BadEntry-clause-refuses g c =
    let d = g.G.Gpu.state c.args.gpu.now in
    let old = c.args.self.now in
    let new : Vgpu = record { gtt = c.create_root.new.self; mmio = old.mmio; failsafe = old.failsafe; engines = old.engines; four = c.self-1.given.0 } in
    root-refused d (g.G.Gpu.state c.create_root.new.gpu) old new (is_here c.args.here) c.requires c.create_root.ensures.changes refl refl refl c.args.root
    (c.in-Err-BadEntry.ensures.bad (λ i. Err (c.in-Err-BadEntry.field-0-is i)) (private_of d old (is_here c.args.here))) c.create_root.ensures.stands c.create_root.ensures.memory

pub returns-in-Ok-clause-unsubmitted : goal.returns-in-Ok-clause-unsubmitted
returns-in-Ok-clause-unsubmitted g c = tables-engines (g.G.Gpu.state c.args.gpu.now) (g.G.Gpu.state c.create_root.new.gpu) c.args.self.now.gtt c.create_root.new.self c.create_root.ensures.changes

pub returns-in-Err-OutOfMemory-clause-unsubmitted : goal.returns-in-Err-OutOfMemory-clause-unsubmitted
returns-in-Err-OutOfMemory-clause-unsubmitted g c = tables-engines (g.G.Gpu.state c.args.gpu.now) (g.G.Gpu.state c.create_root.new.gpu) c.args.self.now.gtt c.create_root.new.self c.create_root.ensures.changes

pub returns-in-Err-BadEntry-clause-unsubmitted : goal.returns-in-Err-BadEntry-clause-unsubmitted
returns-in-Err-BadEntry-clause-unsubmitted g c = tables-engines (g.G.Gpu.state c.args.gpu.now) (g.G.Gpu.state c.create_root.new.gpu) c.args.self.now.gtt c.create_root.new.self c.create_root.ensures.changes
