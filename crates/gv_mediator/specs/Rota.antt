-- Who owns each engine.
use Rattle.std.specs.Prelude.{ℕ, ◌==◌, nat_lt, if◌then◌else◌, Bool, false, Option, None, Some}
use Rattle.gv_sched.specs.Rota.{Owners, owner_of}

-- the owner of each of the four engines; in the middle of a switch an engine has none
abbrev pub owners_in : Owners → ℕ → Option ℕ
owners_in rota engine = if nat_lt engine 4 then Some (owner_of rota engine) else None

abbrev pub is_guest : ℕ → Option ℕ → Bool
is_guest guest None = false
is_guest guest (Some owner) = owner == guest

-- whether a guest owns an engine
abbrev pub owns : (ℕ → Option ℕ) → ℕ → ℕ → Bool
owns owners guest engine = is_guest guest (owners engine)
