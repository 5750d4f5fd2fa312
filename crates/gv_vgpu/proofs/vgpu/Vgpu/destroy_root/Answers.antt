use Rattle.std.proofs.Common.{refl, sym, ◌∙◌, arith}
use Rattle.gv_types.specs.declared.reply.Stop.{Stop}
use Rattle.gv_gtt.proofs.Others.{changes_stay_inside}
use Rattle.gv_vgpu.specs.Vgpu.{private_of}
use Rattle.gv_vgpu.specs.Owners.{is_here}
use Rattle.gv_vgpu.specs.declared.vgpu.Vgpu.{Vgpu}
use Rattle.gv_vgpu.proofs.Roots.{at-work-stays, less-keeps, none-destroyed, root-destroyed}
use Rattle.gv_vgpu.proofs.Unsubmitted.{tables-engines}
use Rattle.gv_vgpu.proofs.Stopping.{stops-without}
use Rattle.gv_vgpu.proofs.vgpu.Vgpu.destroy_root.Goals as goal
use Rattle.gv_vgpu.proofs.vgpu.Vgpu.destroy_root.Goals.{else-root-from-via-then-root-from+else-not-is_at_work, else-root-from-via-else-root-from}

pub returns-in-Ok-clause-device : goal.returns-in-Ok-clause-device
returns-in-Ok-clause-device g c =
    let d = g.G.Gpu.state c.args.gpu.now in
    let old = c.args.self.now in
    let new : Vgpu = record { gtt = c.destroy_root.new.self; mmio = old.mmio; failsafe = old.failsafe; engines = old.engines; four = c.self-1.given.0 } in
    let here = is_here c.args.here in
    root-destroyed d (g.G.Gpu.state c.destroy_root.new.gpu) old new here c.requires c.destroy_root.ensures.changes refl refl refl c.args.root
    c.in-Ok.ensures.translates c.in-Ok.ensures.stay (sym (c.is_at_work.ensures d here) ∙ c.if-not-is_at_work.true) c.in-Ok.ensures.device

pub returns-in-Ok-clause-keeps : goal.returns-in-Ok-clause-keeps
returns-in-Ok-clause-keeps g c =
    let d = g.G.Gpu.state c.args.gpu.now in
    let old = c.args.self.now in
    let new : Vgpu = record { gtt = c.destroy_root.new.self; mmio = old.mmio; failsafe = old.failsafe; engines = old.engines; four = c.self-1.given.0 } in
    let here = is_here c.args.here in
    less-keeps d (g.G.Gpu.state c.destroy_root.new.gpu) old new here c.requires c.destroy_root.ensures.changes refl refl refl c.args.root
    c.in-Ok.ensures.translates c.in-Ok.ensures.stay (sym (c.is_at_work.ensures d here) ∙ c.if-not-is_at_work.true) c.in-Ok.ensures.device

pub returns-in-Err-clause-stops : goal.returns-in-Err-clause-stops
returns-in-Err-clause-stops g c =
    stops-without (is_here c.args.here) (g.G.Gpu.state c.args.gpu.now) (g.G.Gpu.state c.destroy_root.new.gpu) c.args.self.now Stop.OutOfMemory
    (changes_stay_inside (g.G.Gpu.state c.args.gpu.now) (g.G.Gpu.state c.destroy_root.new.gpu) c.args.self.now.gtt c.destroy_root.new.self (is_here c.args.here) c.destroy_root.ensures.changes) (λ is. cc)

pub returns-else-root-from-clause-device : goal.returns-else-root-from-clause-device
returns-else-root-from-clause-device g c =
    let d = g.G.Gpu.state c.args.gpu.now in
    let old = c.args.self.now in
    let here = is_here c.args.here in
    elim c.else-root-from.branch [
      | else-root-from-via-then-root-from+else-not-is_at_work w ↦ at-work-stays (private_of d old here) c.args.root (sym (w.is_at_work.ensures d here) ∙ w.if-not-is_at_work.false)
      | else-root-from-via-else-root-from w ↦ none-destroyed d old here c.args.root c.requires (omega (arith, w.if-root-from.false, c.from.ensures, c.frames.ensures))
    ]

pub returns-in-Ok-clause-unsubmitted : goal.returns-in-Ok-clause-unsubmitted
returns-in-Ok-clause-unsubmitted g c = tables-engines (g.G.Gpu.state c.args.gpu.now) (g.G.Gpu.state c.destroy_root.new.gpu) c.args.self.now.gtt c.destroy_root.new.self c.destroy_root.ensures.changes

pub returns-in-Err-clause-unsubmitted : goal.returns-in-Err-clause-unsubmitted
returns-in-Err-clause-unsubmitted g c = tables-engines (g.G.Gpu.state c.args.gpu.now) (g.G.Gpu.state c.destroy_root.new.gpu) c.args.self.now.gtt c.destroy_root.new.self c.destroy_root.ensures.changes
