-- Words that are refused name no command.
use Rattle.std.proofs.Common.{◌≡◌, ℕ, Bool, not, List, [], ◌∷◌, true, false, codes, refl}
use Rattle.std.proofs.lemmas.Bool.{and_parts}
use Rattle.std.specs.List.{AllByRecursion, list_all}
use Rattle.clap.proofs.OnLiterals.{clap_on_literals}
use Rattle.gv_words.specs.Task.{is_taken}
use Rattle.gv_words.specs.Names.{NamesRun, NamesGen, NamesNothing, NoneIsCommand, no_commands}

not_taken : (taken : Bool) → not taken ≡ true → taken ≡ false
not_taken true is = cc
not_taken false is = refl

names_nothing : (words : List (List ℕ)) → is_taken words ≡ false → NamesNothing words
names_nothing words refused = (λ names. let taken = names.taken in cc, λ number names. let taken = names.taken in cc)

all_refused : (lists : List (List (List ℕ))) → list_all (λ words. not (is_taken words)) lists ≡ true → AllByRecursion NamesNothing lists
all_refused [] refused = tt
all_refused (words ∷ lists) refused =
    let parts = and_parts (not (is_taken words)) (list_all (λ words. not (is_taken words)) lists) refused in
    (names_nothing words (not_taken (is_taken words) parts.0), all_refused lists parts.1)

pub run_is_named : NamesRun (codes "run" ∷ [])
unfolding clap_on_literals
run_is_named = record { taken = refl; task = refl }

pub gen_is_named : NamesGen (codes "gen" ∷ codes "7" ∷ []) 7
unfolding clap_on_literals
gen_is_named = record { taken = refl; task = refl }

pub zero_is_named : NamesGen (codes "gen" ∷ codes "0" ∷ []) 0
unfolding clap_on_literals
zero_is_named = record { taken = refl; task = refl }

pub largest_is_named : NamesGen (codes "gen" ∷ codes "4294967295" ∷ []) 4294967295
unfolding clap_on_literals
largest_is_named = record { taken = refl; task = refl }

pub none_is_command : NoneIsCommand
unfolding clap_on_literals
none_is_command = all_refused no_commands refl
