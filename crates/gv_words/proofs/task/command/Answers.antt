use Rattle.std.proofs.Common.{[], ap, ap₂, ◌≡◌, ◌∙◌}
use Rattle.std.proofs.lemmas.Result.{IfOk-weaker}
use Rattle.clap.specs.Words.{App, app_of, with_rule, with_subcommand}
use Rattle.std.specs.Prelude.{false, ◌||◌}
use Rattle.clap.specs.declared.builder.command.Command.TheViews.{out-Command as fields_of}
use Rattle.gv_words.specs.Task.{program_app, run_shape, gen_shape}
use Rattle.gv_words.proofs.task.command.Goals as goal

pub returns : goal.returns
returns c =
    let generate_is : app_of c.in_ok-generate.generate ≡ record { top = gen_shape; subs = [] } = c.in_ok-generate.ensures.shape c.number.ensures.own ∙ ap₂ with_rule c.new.ensures.app c.number.ensures.rule in
    let first : app_of c.in_ok-subcommand.field-0 ≡ with_subcommand program_app run_shape = c.in_ok-subcommand.ensures.shape c.new-run.ensures.local ∙ ap₂ with_subcommand c.program.ensures (ap (λ (a : App). a.top) c.new-run.ensures.app) in
    let local : (fields_of c.in_ok-generate.generate).has_globals ≡ false = c.in_ok-generate.ensures.globals ∙ ap₂ (λ x y. x || y) c.new.ensures.local c.number.ensures.own in
    IfOk-weaker c.subcommand-2.result _ _ (λ r h. h.shape local ∙ ap₂ with_subcommand first (ap (λ (a : App). a.top) generate_is)) c.subcommand-2.ensures
