use Rattle.std.proofs.Common.{◌≡◌, subst, List, ℕ, Ok, Err, length}
use Rattle.std.specs.Prelude.{MatchOption}
use Rattle.gv_cmd.specs.Command.{decoded}
use Rattle.gv_scan.proofs.FrontCommand.{at-front}
use Rattle.gv_scan.proofs.command.command_at.Goals as goal

pub returns : goal.returns
returns g c =
    at-front (g.R.Reader.space c.args.reader.now).word c.args.at c.args.count c.requires.named c.front_command.result
    (let P : List ℕ → Type 0 = λ xs. MatchOption c.front_command.result (decoded xs ≡ Err record {}) (λ k. decoded xs ≡ Ok (k, length k)) in subst P c.read_dwords-words.ensures c.front_command.ensures.value)
