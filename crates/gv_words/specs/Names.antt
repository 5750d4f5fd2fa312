-- The commands that words name.
use Rattle.std.specs.Prelude.{◌≡◌, ℕ, List, [], ◌∷◌, true, Some, codes}
use Rattle.std.specs.List.{AllByRecursion}
use Rattle.gv_words.specs.Task.{is_taken, task_meant}
use Rattle.gv_words.specs.declared.task.Task.TheVariants.{Run, Gen}

-- The words name the command `run`, by clap's meaning of the program's command.
pub record NamesRun (words : List (List ℕ)) : Type 0 where
  pub taken : is_taken words ≡ true
  pub task : task_meant words ≡ Some Run

-- They name the command `gen` with this number.
pub record NamesGen (words : List (List ℕ)) (number : ℕ) : Type 0 where
  pub taken : is_taken words ≡ true
  pub task : task_meant words ≡ Some (Gen number)

-- They name neither.
abbrev pub NamesNothing : List (List ℕ) → Type 0
NamesNothing words = (¬ NamesRun words) × ((number : ℕ) → ¬ NamesGen words number)

-- ---- by example

-- Words that name no command: none, a word too many or too few, other names and other letters, a number that is none or is
-- too large, and requests for help and for the version.
abbrev pub no_commands : List (List (List ℕ))
no_commands = [] ∷ (codes "run" ∷ codes "x" ∷ []) ∷ (codes "walk" ∷ []) ∷ (codes "Run" ∷ []) ∷ (codes "gen" ∷ []) ∷ (codes "gen" ∷ codes "x" ∷ [])
    ∷ (codes "gen" ∷ codes "1f" ∷ []) ∷ (codes "gen" ∷ codes "-1" ∷ []) ∷ (codes "gen" ∷ codes "4294967296" ∷ []) ∷ (codes "gen" ∷ codes "1" ∷ codes "2" ∷ [])
    ∷ (codes "help" ∷ []) ∷ (codes "--help" ∷ []) ∷ (codes "gen" ∷ codes "--help" ∷ []) ∷ (codes "-V" ∷ []) ∷ []

abbrev pub NoneIsCommand : Type 0
NoneIsCommand = AllByRecursion NamesNothing no_commands
