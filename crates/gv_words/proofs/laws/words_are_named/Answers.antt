use Rattle.gv_words.proofs.Named.{run_is_named, gen_is_named, zero_is_named, largest_is_named, none_is_command}
use Rattle.gv_words.proofs.laws.words_are_named.Goals as goal

pub returns : goal.returns
returns c = record { run = run_is_named; seven = gen_is_named; zero = zero_is_named; largest = largest_is_named; nothing = none_is_command }
