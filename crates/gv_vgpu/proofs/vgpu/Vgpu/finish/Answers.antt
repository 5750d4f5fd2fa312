use Rattle.std.proofs.Common.{refl}
use Rattle.gv_csb.specs.Status.{in_order}
use Rattle.gv_vgpu.specs.Changes.{injected}
use Rattle.gv_vgpu.specs.Owners.{is_here}
use Rattle.gv_vgpu.specs.declared.vgpu.Vgpu.{Vgpu}
use Rattle.gv_vgpu.proofs.Finished.{completes, completion-keeps}
use Rattle.gv_vgpu.proofs.Unsubmitted.{engines-then}
use Rattle.gv_vgpu.proofs.vgpu.Vgpu.finish.Goals as goal

pub give_events-requires-clause-holds : goal.give_events-requires-clause-holds
give_events-requires-clause-holds g c =
    let ended = c.requires.ended in
    let one = c.take_ended-tail.new.self in
    let new : Vgpu = record { gtt = one.gtt; mmio = c.complete-events.new.self; failsafe = one.failsafe; engines = one.engines; four = c.self-1.given.0 } in
    (completion-keeps ended.before (g.G.Gpu.state c.take_ended-tail.new.gpu) (g.G.Gpu.state c.write_tail.new.gpu) (g.G.Gpu.state c.write_tail.new.gpu) c.args.self.now one new new (is_here c.args.here) c.args.engine.0 ended.element c.take_ended-tail.result
    ended.holds (c.take_ended-tail.ensures.ends ended) c.write_tail.ensures.device c.write_tail.ensures.keeps refl refl refl c.complete-events.ensures.same c.complete-events.ensures.device).holds

pub returns-clause-completes : goal.returns-clause-completes
returns-clause-completes g c = λ ended.
    let one = c.take_ended-tail.new.self in
    let new : Vgpu = record { gtt = one.gtt; mmio = c.complete-events.new.self; failsafe = one.failsafe; engines = one.engines; four = c.self-1.given.0 } in
    completes ended.before (g.G.Gpu.state c.take_ended-tail.new.gpu) (g.G.Gpu.state c.write_tail.new.gpu) (g.G.Gpu.state c.give_events.new.gpu) c.args.self.now one new c.give_events.new.self (is_here c.args.here) c.args.engine.0 ended.element c.take_ended-tail.result
    ended.holds (c.take_ended-tail.ensures.ends ended) c.write_tail.ensures.device c.write_tail.ensures.keeps refl refl refl c.complete-events.ensures.same c.complete-events.ensures.device
    (in_order c.complete-events.result) (injected c.give_events.result) c.complete-events.ensures.events c.give_events.ensures.given

pub returns-clause-engines : goal.returns-clause-engines
returns-clause-engines g c =
    engines-then (g.G.Gpu.state c.args.gpu.now) (g.G.Gpu.state c.write_tail.new.gpu) (g.G.Gpu.state c.give_events.new.gpu)
    (engines-then (g.G.Gpu.state c.args.gpu.now) (g.G.Gpu.state c.take_ended-tail.new.gpu) (g.G.Gpu.state c.write_tail.new.gpu) c.take_ended-tail.ensures.engines c.write_tail.ensures.engines)
    c.give_events.ensures.engines
