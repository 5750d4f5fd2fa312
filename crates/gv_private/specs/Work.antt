-- Whether an engine has work of a guest's.
use Rattle.std.specs.Prelude.{ℕ, List, [], ◌∷◌, Bool, true, false, ◌||◌}
use Rattle.std.specs.Option.{is_some}
use Rattle.gv_private.specs.Device.{PrivateDevice}

abbrev pub is_list : List ℕ → Bool
is_list [] = false
is_list (descriptor ∷ more) = true

-- an element at work, or a list
abbrev pub has_work : ℕ → PrivateDevice → Bool
has_work engine p = is_some (p.engines engine).element || is_list (p.engines engine).slots.running
