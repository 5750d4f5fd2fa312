use Rattle.std.proofs.Common.{ap, ◌∙◌, codes}
use Rattle.std.specs.Prelude.{option_and_then}
use Rattle.clap.specs.Words.{found_of, one_text}
use Rattle.clap.proofs.WalkLemmas.{one_text-rows}
use Rattle.std.specs.Str.Parse.{ParsesUnsigned, ExplainsUnsignedError, HasUnsignedDigitsIfOk}
use Rattle.gv_words.specs.Task.{number_spelled}
use Rattle.gv_words.proofs.Spelled.{read_number}
use Rattle.gv_words.proofs.task.number_in.Goals as goal

pub returns : goal.returns
returns c =
    let found = found_of c.args.arguments.now in
    read_number (λ bs r. ParsesUnsigned 32 10 bs r × ExplainsUnsignedError 10 bs r × HasUnsignedDigitsIfOk bs r) (λ text r h. h.0) (one_text found (codes "number")) c.get_one.result c.get_one.ensures.none c.get_one.ensures.value
    ∙ ap (option_and_then number_spelled) (one_text-rows found (codes "number"))
