use Rattle.std.proofs.Common.{◌≡◌, arith, None, inr, is_some, refl, sym, ◌∙◌, subst, true}
use Rattle.std.specs.Prelude.{IfOk}
use Rattle.gv_regs.specs.declared.effect.Target.TheVariants.{General, Notify}
use Rattle.gv_private.specs.Device.{quietly}
use Rattle.gv_private.specs.Registers.{general_written}
use Rattle.gv_private.specs.Roots.{notify_written}
use Rattle.gv_private.specs.Status.{event_given}
use Rattle.gv_vgpu.specs.Changes.{Makes, injected}
use Rattle.gv_vgpu.specs.Plain.{IsPlainTarget}
use Rattle.gv_vgpu.specs.Vgpu.{private_of}
use Rattle.gv_vgpu.specs.Owners.{is_here}
use Rattle.gv_vgpu.specs.declared.vgpu.Vgpu.{Vgpu}
use Rattle.gv_vgpu.proofs.Dwords.{by-target, dword-done, dword-resets, dword-starts, holds-but, keeps-from, makes-from, moved-holds, starts-runs, stays-here, stays-runs}
use Rattle.gv_vgpu.proofs.Made.{makes-done}
use Rattle.gv_vgpu.proofs.Plain.{access-frames, access-none, ok-anyway}
use Rattle.gv_vgpu.proofs.Stopping.{if-ok, on-ok}
use Rattle.gv_vgpu.proofs.vgpu.Vgpu.write_dword.Goals as goal

pub write_general-requires-clause-holds : goal.write_general-requires-clause-holds
write_general-requires-clause-holds g c =
    let old = c.args.self.now in
    let new : Vgpu = record { gtt = old.gtt; mmio = c.write.new.self; failsafe = old.failsafe; engines = old.engines; four = c.self-1.given.0 } in
    let d = g.G.Gpu.state c.args.gpu.now in
    let here = is_here c.args.here in
    moved-holds d old new here c.requires.holds refl refl refl c.write.ensures.same
    (stays-runs d old new here c.requires.holds refl refl refl c.write.ensures.same c.args.offset c.args.value c.in-General.ensures.wrote.3)

pub reset_named-requires : goal.reset_named-requires
reset_named-requires g c =
    let old = c.args.self.now in
    let new : Vgpu = record { gtt = old.gtt; mmio = c.write.new.self; failsafe = old.failsafe; engines = old.engines; four = c.self-1.given.0 } in
    let wrote = c.in-Engines.ensures.wrote in
    record {
      holds = holds-but (g.G.Gpu.state c.args.gpu.now) old new (is_here c.args.here) c.requires.holds refl refl refl c.write.ensures.same c.args.offset c.args.value c.in-Engines.named wrote.0 wrote.1 wrote.2;
    }

pub notify-requires : goal.notify-requires
notify-requires g c =
    let old = c.args.self.now in
    let new : Vgpu = record { gtt = old.gtt; mmio = c.write.new.self; failsafe = old.failsafe; engines = old.engines; four = c.self-1.given.0 } in
    let d = g.G.Gpu.state c.args.gpu.now in
    let here = is_here c.args.here in
    moved-holds d old new here c.requires.holds refl refl refl c.write.ensures.same
    (stays-runs d old new here c.requires.holds refl refl refl c.write.ensures.same c.args.offset c.args.value c.in-Notify.ensures.wrote.1)

pub give_event-irq-requires-clause-holds : goal.give_event-irq-requires-clause-holds
give_event-irq-requires-clause-holds g c =
    let old = c.args.self.now in
    let new : Vgpu = record { gtt = old.gtt; mmio = c.write.new.self; failsafe = old.failsafe; engines = old.engines; four = c.self-1.given.0 } in
    let d = g.G.Gpu.state c.args.gpu.now in
    let here = is_here c.args.here in
    let wrote = c.in-Starts.ensures.wrote in
    moved-holds d old new here c.requires.holds refl refl refl c.write.ensures.same
    (starts-runs d old new here c.requires.holds refl refl refl c.write.ensures.same c.args.offset c.args.value wrote.0 c.in-Starts.engine.0 wrote.2)

pub returns-in-Done-clause-written : goal.returns-in-Done-clause-written
returns-in-Done-clause-written g c =
    let old = c.args.self.now in
    let new : Vgpu = record { gtt = old.gtt; mmio = c.write.new.self; failsafe = old.failsafe; engines = old.engines; four = c.self-1.given.0 } in
    let wrote = c.in-Done.ensures.wrote in
    dword-done (g.G.Gpu.state c.args.gpu.now) old new (is_here c.args.here) c.requires.holds refl refl refl c.write.ensures.same c.args.offset c.args.value wrote.0 c.in-Done.irq wrote.1 c.injected.result c.injected.ensures

pub returns-in-General-clause-written : goal.returns-in-General-clause-written
returns-in-General-clause-written g c =
    let old = c.args.self.now in
    let new : Vgpu = record { gtt = old.gtt; mmio = c.write.new.self; failsafe = old.failsafe; engines = old.engines; four = c.self-1.given.0 } in
    let d = g.G.Gpu.state c.args.gpu.now in
    let e = g.G.Gpu.state c.write_general.new.gpu in
    let here = is_here c.args.here in
    let wrote = c.in-General.ensures.wrote in
    makes-done here d e old c.write_general.new.self _ None c.none.result
    (by-target d old new here c.requires.holds refl refl refl c.write.ensures.same c.args.offset c.args.value (General c.in-General.engine c.in-General.n) wrote.0
    ∙ (λ i. quietly (general_written (sym (stays-here d old new here c.requires.holds refl refl refl c.write.ensures.same c.args.offset c.args.value wrote.3) i) c.in-General.engine.0 c.in-General.n c.args.value))
    ∙ (λ i. quietly (sym c.write_general.ensures.device i)))
    (keeps-from d old new here c.requires.holds refl refl refl c.write.ensures.same e c.write_general.new.self c.write_general.ensures.keeps) c.none.ensures

pub returns-in_ok-or_stop-in-Engines-clause-written : goal.returns-in_ok-or_stop-in-Engines-clause-written
returns-in_ok-or_stop-in-Engines-clause-written g c =
    let old = c.args.self.now in
    let new : Vgpu = record { gtt = old.gtt; mmio = c.write.new.self; failsafe = old.failsafe; engines = old.engines; four = c.self-1.given.0 } in
    let wrote = c.in-Engines.ensures.wrote in
    dword-resets (g.G.Gpu.state c.args.gpu.now) old new (is_here c.args.here) c.requires.holds refl refl refl c.write.ensures.same c.args.offset c.args.value c.in-Engines.named wrote.0 wrote.1 wrote.2
    (g.G.Gpu.state c.reset_named.new.gpu) c.reset_named.new.self c.none-in-Engines.result
    (on-ok c.reset_named.result c.in_ok-or_stop-in-Engines.field-0 _ c.in_ok-or_stop-in-Engines.ensures.ok c.reset_named.ensures.device)
    (on-ok c.reset_named.result c.in_ok-or_stop-in-Engines.field-0 _ c.in_ok-or_stop-in-Engines.ensures.ok c.reset_named.ensures.keeps) c.none-in-Engines.ensures

pub returns-in-Notify-clause-written : goal.returns-in-Notify-clause-written
returns-in-Notify-clause-written g c =
    let old = c.args.self.now in
    let new : Vgpu = record { gtt = old.gtt; mmio = c.write.new.self; failsafe = old.failsafe; engines = old.engines; four = c.self-1.given.0 } in
    let d = g.G.Gpu.state c.args.gpu.now in
    let e = g.G.Gpu.state c.notify.new.gpu in
    let here = is_here c.args.here in
    let wrote = c.in-Notify.ensures.wrote in
    subst (λ w. IfOk c.notify.result (λ notice. Makes here d e old c.notify.new.self w notice))
    (sym (by-target d old new here c.requires.holds refl refl refl c.write.ensures.same c.args.offset c.args.value Notify wrote.0
    ∙ (λ i. notify_written (sym (stays-here d old new here c.requires.holds refl refl refl c.write.ensures.same c.args.offset c.args.value wrote.1) i) c.args.value)))
    (if-ok c.notify.result (λ notice. Makes here d e new c.notify.new.self (notify_written (private_of d new here) c.args.value) notice) (λ notice. Makes here d e old c.notify.new.self (notify_written (private_of d new here) c.args.value) notice)
    (λ notice makes. makes-from d old new here c.requires.holds refl refl refl c.write.ensures.same e c.notify.new.self (notify_written (private_of d new here) c.args.value) notice makes)
    c.notify.ensures.notified)

pub returns-in-Notify-clause-faults : goal.returns-in-Notify-clause-faults
returns-in-Notify-clause-faults g c = λ stopped.
    let old = c.args.self.now in
    let new : Vgpu = record { gtt = old.gtt; mmio = c.write.new.self; failsafe = old.failsafe; engines = old.engines; four = c.self-1.given.0 } in
    let d = g.G.Gpu.state c.args.gpu.now in
    let here = is_here c.args.here in
    let wrote = c.in-Notify.ensures.wrote in
    inr (subst (λ w. is_some w.reason ≡ true)
    (sym (by-target d old new here c.requires.holds refl refl refl c.write.ensures.same c.args.offset c.args.value Notify wrote.0
    ∙ (λ i. notify_written (sym (stays-here d old new here c.requires.holds refl refl refl c.write.ensures.same c.args.offset c.args.value wrote.1) i) c.args.value)))
    (c.notify.ensures.listed stopped))

pub returns-in-Starts-clause-written : goal.returns-in-Starts-clause-written
returns-in-Starts-clause-written g c =
    let old = c.args.self.now in
    let new : Vgpu = record { gtt = old.gtt; mmio = c.write.new.self; failsafe = old.failsafe; engines = old.engines; four = c.self-1.given.0 } in
    let d = g.G.Gpu.state c.args.gpu.now in
    let e = g.G.Gpu.state c.give_event-irq.new.gpu in
    let here = is_here c.args.here in
    let wrote = c.in-Starts.ensures.wrote in
    dword-starts d old new here c.requires.holds refl refl refl c.write.ensures.same c.args.offset c.args.value wrote.0 c.in-Starts.engine.0 wrote.2
    e c.give_event-irq.new.self c.give_event-irq.result c.injected-in-Starts.result
    (subst (λ status. Makes here d e new c.give_event-irq.new.self (event_given (private_of d new here) c.in-Starts.engine.0 status) (injected c.give_event-irq.result)) c.idle_to_active.ensures c.give_event-irq.ensures.given)
    c.injected-in-Starts.ensures

pub returns-in-Done-clause-part : goal.returns-in-Done-clause-part
returns-in-Done-clause-part g c = λ plain. access-none 3 (g.G.Gpu.state c.args.gpu.now) c.args.self.now

pub returns-in-General-clause-part : goal.returns-in-General-clause-part
returns-in-General-clause-part g c = λ plain. absurd (subst IsPlainTarget c.in-General.ensures.wrote.0 plain)

pub returns-in_ok-or_stop-in-Engines-clause-part : goal.returns-in_ok-or_stop-in-Engines-clause-part
returns-in_ok-or_stop-in-Engines-clause-part g c = λ plain. absurd (subst IsPlainTarget c.in-Engines.ensures.wrote.0 plain)

pub returns-in-Notify-clause-part : goal.returns-in-Notify-clause-part
returns-in-Notify-clause-part g c = ok-anyway c.notify.result _ (λ plain. absurd (subst IsPlainTarget c.in-Notify.ensures.wrote.0 plain))

pub returns-in-Starts-clause-part : goal.returns-in-Starts-clause-part
returns-in-Starts-clause-part g c = λ plain.
    access-frames 3 3 (g.G.Gpu.state c.args.gpu.now) (g.G.Gpu.state c.give_event-irq.new.gpu) c.args.self.now (omega arith) c.give_event-irq.ensures.part
