use Rattle.std.proofs.Common.{◌∙◌, sym, ◌∷◌}
use Rattle.std.specs.Prelude.{option_to_list}
use Rattle.gv_gtt.specs.Gtt.{number_of}
use Rattle.gv_private.specs.Status.{events_given}
use Rattle.gv_vgpu.specs.Vgpu.{private_of}
use Rattle.gv_vgpu.specs.Owners.{is_here}
use Rattle.gv_vgpu.proofs.Raised.{made, two-events}
use Rattle.gv_vgpu.proofs.Registers.{keeps-then}
use Rattle.gv_vgpu.proofs.Unsubmitted.{engines-then, frames-engines}
use Rattle.gv_vgpu.proofs.vgpu.Vgpu.give_events.Goals as goal

pub returns-in-Some-clause-given : goal.returns-in-Some-clause-given
returns-in-Some-clause-given g c =
    let here = is_here c.args.here in
    let d = g.G.Gpu.state c.args.gpu.now in
    let e = g.G.Gpu.state c.give_event-first.new.gpu in
    let f = g.G.Gpu.state c.give_event-second.new.gpu in
    let old = c.args.self.now in
    let one = c.give_event-first.new.self in
    let new = c.give_event-second.new.self in
    let engine = c.args.engine.0 in
    let first = c.give_event-first.ensures.given in
    let second = c.give_event-second.ensures.given in
    record {
      written =
          (λ i. events_given (private_of d old here) engine (c.args.events.first ∷ option_to_list (c.in-Some.is i)))
          ∙ two-events (private_of d old here) (private_of e one here) (private_of f new here) engine c.args.events.first c.in-Some.second c.give_event-first.result c.give_event-second.result c.requires.awake first.written second.written
          ∙ (λ i. made (private_of f new here) (sym c.or.ensures i));
      keeps = keeps-then here d e f old one new first.keeps second.keeps;
    }

pub returns-in-Some-clause-engines : goal.returns-in-Some-clause-engines
returns-in-Some-clause-engines g c =
    engines-then (g.G.Gpu.state c.args.gpu.now) (g.G.Gpu.state c.give_event-first.new.gpu) (g.G.Gpu.state c.give_event-second.new.gpu)
    (frames-engines (number_of c.args.self.now.gtt) 3 (g.G.Gpu.state c.args.gpu.now) (g.G.Gpu.state c.give_event-first.new.gpu) c.give_event-first.ensures.part)
    (frames-engines (number_of c.give_event-first.new.self.gtt) 3 (g.G.Gpu.state c.give_event-first.new.gpu) (g.G.Gpu.state c.give_event-second.new.gpu) c.give_event-second.ensures.part)

pub returns-in-None-clause-engines : goal.returns-in-None-clause-engines
returns-in-None-clause-engines g c =
    frames-engines (number_of c.args.self.now.gtt) 3 (g.G.Gpu.state c.args.gpu.now) (g.G.Gpu.state c.give_event-first.new.gpu) c.give_event-first.ensures.part
