use Rattle.std.proofs.Common.{◌∙◌, ap, take}
use Rattle.gv_gpu.specs.Step.{Stepped}
use Rattle.gv_engine.specs.Soft.{loaded_of}
use Rattle.gv_engine.specs.Whole.{whole}
use Rattle.gv_engine.proofs.FetchLemmas.{front_step-is}
use Rattle.gv_engine.proofs.soft.SoftGpu.step_front.Goals as goal

pub returns-in-Err-clause-after : goal.returns-in-Err-clause-after
returns-in-Err-clause-after c =
    c.settle.ensures
    ∙ ap (λ (s : Stepped). s.after) (front_step-is (whole c.args.self.now) c.args.engine.0 (loaded_of c.args.context.now) (take c.fetch-fetched.result.count c.fetch-fetched.result.words) c.fetch-fetched.result.strayed _ c.fetch-fetched.ensures.words c.fetch-fetched.ensures.strayed c.in-Err.ensures.value)

pub returns-in-Err-clause-answer : goal.returns-in-Err-clause-answer
returns-in-Err-clause-answer c =
    ap (λ (s : Stepped). s.answer) (front_step-is (whole c.args.self.now) c.args.engine.0 (loaded_of c.args.context.now) (take c.fetch-fetched.result.count c.fetch-fetched.result.words) c.fetch-fetched.result.strayed _ c.fetch-fetched.ensures.words c.fetch-fetched.ensures.strayed c.in-Err.ensures.value)

pub returns-in-Ok-clause-after : goal.returns-in-Ok-clause-after
returns-in-Ok-clause-after c =
    c.step_command.ensures.after
    ∙ ap (λ (s : Stepped). s.after) (front_step-is (whole c.args.self.now) c.args.engine.0 (loaded_of c.args.context.now) (take c.fetch-fetched.result.count c.fetch-fetched.result.words) c.fetch-fetched.result.strayed _ c.fetch-fetched.ensures.words c.fetch-fetched.ensures.strayed c.in-Ok.ensures.value)

pub returns-in-Ok-clause-answer : goal.returns-in-Ok-clause-answer
returns-in-Ok-clause-answer c =
    c.step_command.ensures.answer
    ∙ ap (λ (s : Stepped). s.answer) (front_step-is (whole c.args.self.now) c.args.engine.0 (loaded_of c.args.context.now) (take c.fetch-fetched.result.count c.fetch-fetched.result.words) c.fetch-fetched.result.strayed _ c.fetch-fetched.ensures.words c.fetch-fetched.ensures.strayed c.in-Ok.ensures.value)
