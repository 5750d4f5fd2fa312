-- How the two slots hold their lists.
use Rattle.std.specs.Prelude.{ℕ, List, [], ◌∷◌, Option, Some, None}
use Rattle.gv_csb.specs.declared.slots.Execlist.{Execlist}
use Rattle.gv_csb.specs.declared.slots.Slots.TheInside.{Inside}
use Rattle.gv_csb.specs.Slots.{Execlists}

abbrev pub next_elements : Option ℕ → List ℕ
next_elements None = []
next_elements (Some next) = next ∷ []

abbrev pub elements_of_list : Execlist → List ℕ
elements_of_list list = list.element ∷ next_elements list.next

abbrev pub elements_of : Option Execlist → List ℕ
elements_of None = []
elements_of (Some list) = elements_of_list list

abbrev pub execlists_of : Inside → Execlists
execlists_of s = record { running = elements_of s.running; pending = elements_of s.pending; pairs = s.pairs; write = s.write; read = s.read }
