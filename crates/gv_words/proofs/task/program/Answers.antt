use Rattle.std.proofs.Common.{ap, ◌∙◌}
use Rattle.std.specs.Prelude.{true}
use Rattle.clap.specs.Words.{App}
use Rattle.clap.specs.Simple.{app_of_fields}
use Rattle.gv_words.proofs.task.program.Goals as goal

pub returns : goal.returns
returns c =
    ap app_of_fields (c.subcommand_required.ensures
    ∙ (λ i. record (c.disable_help_subcommand.ensures i) { subcommand_required = true })
    ∙ (λ i. record (record (c.disable_help_flag.ensures i) { disable_help_subcommand = true }) { subcommand_required = true })
    ∙ (λ i. record (record (record (c.no_binary_name.ensures i) { disable_help_flag = true }) { disable_help_subcommand = true }) { subcommand_required = true }))
    ∙ ap (λ (a : App). record a { top = record a.top { no_binary_name = true; disable_help_flag = true; disable_help_subcommand = true; subcommand_required = true } }) c.new.ensures.app
