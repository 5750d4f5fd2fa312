-- Words name one number at the most.
use Rattle.std.proofs.Common.{◌≡◌, ℕ, List, Option, Some, None, sym, ◌∙◌, ap}
use Rattle.gv_words.specs.Names.{NamesGen}
use Rattle.gv_words.specs.Task.{task_meant}
use Rattle.gv_words.specs.declared.task.Task.{Task}
use Rattle.gv_words.specs.declared.task.Task.TheVariants.{Run, Gen}

number_named : Option Task → ℕ
number_named None = 0
number_named (Some Run) = 0
number_named (Some (Gen number)) = number

pub same-number : (words : List (List ℕ)) (k n : ℕ) → NamesGen words n → task_meant words ≡ Some (Gen k) → k ≡ n
unfolding number_named
same-number words k n names task = ap number_named (sym task ∙ names.task)
