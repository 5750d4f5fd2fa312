use Rattle.std.proofs.Common.{◌<◌, ◌∙◌, ap, slice_index_or, slice_set, sym, subst}
use Rattle.gv_vgpu.specs.Vgpu.{no_engine}
use Rattle.gv_vgpu.proofs.Zeros.{cleared}
use Rattle.gv_vgpu.proofs.vgpu.Vgpu.clear_engine.Goals as goal

pub returns-in-Some-clause-own : goal.returns-in-Some-clause-own
returns-in-Some-clause-own g c =
    ap (λ e. slice_index_or (slice_set c.args.self.now.engines c.args.engine.0 e) c.args.engine.0 no_engine) c.replace-old.ensures.after
    ∙ cleared c.args.self.now.engines c.args.engine.0 c.new.result (subst (λ n. c.args.engine.0 < n) (sym c.args.self.now.four) c.requires.engine) c.new.ensures.element c.new.ensures.zeros c.new.ensures.sixteen

pub returns-in_default-clause-own : goal.returns-in_default-clause-own
returns-in_default-clause-own g c =
    ap (λ e. slice_index_or (slice_set c.args.self.now.engines c.args.engine.0 e) c.args.engine.0 no_engine) c.replace-old.ensures.after
    ∙ cleared c.args.self.now.engines c.args.engine.0 c.new.result (subst (λ n. c.args.engine.0 < n) (sym c.args.self.now.four) c.requires.engine) c.new.ensures.element c.new.ensures.zeros c.new.ensures.sixteen
