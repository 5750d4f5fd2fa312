use Rattle.std.proofs.Common.{◌≡◌, Some, sym, inl, inr, true, false, List, [], ◌∷◌, map, ap, refl, subst, ◌∙◌, arith, Ok, ok_or}
use Rattle.std.proofs.lemmas.Bool.Decides.{nat_tests}
use Rattle.clap.proofs.OnLiterals.{clap_on_literals}
use Rattle.clap.specs.Kinds.{Kinds, IsAmong, HasKind}
use Rattle.clap.specs.Walk.{Text, is_empty}
use Rattle.clap.specs.Faults.{fault_of, is_simple_and_free}
use Rattle.clap.specs.Words.{App, app_of, subcommand_of, kind_of}
use Rattle.clap.specs.declared.error.kind.ErrorKind.{ErrorKind}
use Rattle.clap.specs.declared.error.kind.ErrorKind.TheVariants as error_kind
use Rattle.clap.specs.declared.error.Error.{Error}
use Rattle.std.proofs.lemmas.Bool.{and_parts}
use Rattle.clap.specs.Simple.{is_simple, built, app_of}
use Rattle.clap.specs.Faults.{is_free_app}
use Rattle.gv_words.specs.declared.task.WordsRefused.TheVariants as WordsRefused
use Rattle.gv_words.proofs.Taken.{taken_task}
use Rattle.gv_words.specs.Task.{command_app, is_taken, task_named}
use Rattle.gv_words.proofs.task.task_of.Goals as goal

is_simple_command : is_simple_and_free command_app ≡ true
unfolding clap_on_literals
is_simple_command = refl

some_kind : (k : ErrorKind) (kinds : Kinds) → IsAmong k kinds → is_empty kinds ≡ false
some_kind k [] among = absurd among
some_kind k (x ∷ kinds) among = grind (arith, nat_tests)

refused_words : (e : Error) (words : List Text) → (kind_of e ≡ error_kind.OutOfMemory → ⊥) → HasKind (fault_of command_app words) e → is_taken words ≡ false
refused_words e words not_memory (inl memory) = absurd (not_memory memory)
refused_words e words not_memory (inr among) = some_kind (kind_of e) (fault_of command_app words) among

pub returns-in-Ok-try_get_matches_from-clause-bad : goal.returns-in-Ok-try_get_matches_from-clause-bad
returns-in-Ok-try_get_matches_from-clause-bad c bad =
    let words = map (λ word. word.now) c.args.words.now in
    let simple = ap is_simple_and_free c.in-Ok.ensures ∙ is_simple_command in
    let met = c.in-Ok-try_get_matches_from.ensures in
    let none : fault_of command_app words ≡ [] = ap (λ (a : App). fault_of a words) (sym c.in-Ok.ensures) ∙ met.kinds simple in
    let task = taken_task words none in
    let rows = (met.matches (and_parts (is_simple (app_of c.in-Ok.command)) (is_free_app (built (app_of c.in-Ok.command))) simple).0).1 in
    let named : c.named.result ≡ Some task.0 = c.named.ensures ∙ ap task_named (rows ∙ ap (λ (a : App). subcommand_of a words) c.in-Ok.ensures) ∙ task.1 in
    let answer : c.ok_or.result ≡ Ok task.0 = c.ok_or.ensures.value ∙ ap (λ o. ok_or o WordsRefused.BadWords) named in
    cc

pub returns-in-Err-clause-bad : goal.returns-in-Err-clause-bad
returns-in-Err-clause-bad c bad =
    let words = map (λ word. word.now) c.args.words.now in
    let kinds = c.in-Err.ensures.kinds (ap is_simple_and_free c.in-Ok.ensures ∙ is_simple_command) in
    let not_memory : kind_of c.in-Err.error ≡ error_kind.OutOfMemory → ⊥ = λ memory. let is_memory = c.refused.ensures.1 (c.kind.ensures ∙ memory) in cc in
    refused_words c.in-Err.error words not_memory (subst (λ (a : App). HasKind (fault_of a words) c.in-Err.error) c.in-Ok.ensures kinds)
