use Rattle.std.proofs.Common.{sym, subst, get_or, [], ◌∷◌}
use Rattle.gv_cmd.specs.Command.{IsCommand}
use Rattle.gv_cmd.proofs.Starts.{shape_command}
use Rattle.gv_cmd.proofs.command.Command.shape.Goals as goal

pub new-requires-clause-command : goal.new-requires-clause-command
new-requires-clause-command c =
    subst (λ ws. IsCommand (get_or ws 0 0 ∷ 0 ∷ 0 ∷ [])) (sym c.words.ensures.value)
    (shape_command _ _ _ c.args.self.now c.words.ensures.command c.in-BatchStart-false-default-default.ensures.value)
