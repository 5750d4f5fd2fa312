use Rattle.std.proofs.Common.{refl}
use Rattle.gv_cmd.proofs.Keeping.{kept_made, view_made}
use Rattle.gv_cmd.proofs.command.Command.new.Goals as goal

pub invariant_of-result : goal.invariant_of-result
invariant_of-result c = kept_made _ c.args.words.now c.padded.ensures refl c.requires.command

pub returns : goal.returns
returns c = view_made record { words = c.padded.result; count = _ } c.args.words.now c.padded.ensures refl
