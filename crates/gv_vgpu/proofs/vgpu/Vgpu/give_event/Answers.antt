use Rattle.std.proofs.Common.{sym, ◌∙◌, subst}
use Rattle.gv_gpu.specs.Change.{ChangesOnly}
use Rattle.gv_gpu.specs.Part.{frames_part}
use Rattle.gv_private.specs.Status.{bit_raised, context_switch, copied}
use Rattle.gv_vgpu.specs.Owners.{is_here}
use Rattle.gv_vgpu.proofs.Registers.{keeps-then}
use Rattle.gv_vgpu.proofs.vgpu.Vgpu.give_event.Goals as goal

pub copy-requires-clause-holds : goal.copy-requires-clause-holds
copy-requires-clause-holds g c = (c.push-index.ensures.keeps (g.G.Gpu.state c.args.gpu.now) (is_here c.args.here) c.requires.holds).holds

pub returns-clause-given : goal.returns-clause-given
returns-clause-given g c =
    let d = g.G.Gpu.state c.args.gpu.now in
    let e = g.G.Gpu.state c.copy.new.gpu in
    let here = is_here c.args.here in
    let raised = c.raise.ensures e here c.copy.ensures.keeps.holds in
    record {
      written =
          (λ i. bit_raised (copied (sym (c.push-index.ensures.device d here c.requires.holds) i) c.args.engine.0 (sym (c.push-index.ensures.index d here c.requires.holds) i) c.args.status) c.args.engine.0 context_switch)
          ∙ (λ i. bit_raised (sym c.copy.ensures.device i) c.args.engine.0 context_switch)
          ∙ raised.written;
      keeps = keeps-then here d e e c.args.self.now c.push-index.new.self c.raise.new.self
          (keeps-then here d d e c.args.self.now c.push-index.new.self c.push-index.new.self (c.push-index.ensures.keeps d here c.requires.holds) c.copy.ensures.keeps) raised.keeps;
    }

pub returns-clause-part : goal.returns-clause-part
returns-clause-part g c =
    subst (λ guest. ChangesOnly (frames_part guest) 3 (g.G.Gpu.state c.args.gpu.now) (g.G.Gpu.state c.copy.new.gpu)) (c.push-index.ensures.keeps (g.G.Gpu.state c.args.gpu.now) (is_here c.args.here) c.requires.holds).changes.number c.copy.ensures.part
