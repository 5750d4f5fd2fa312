-- How a command went, as the effect says it.
use Rattle.std.specs.Prelude.{ℕ, Option, None, Some}
use Rattle.gv_exec.specs.declared.done.Done.{Done}
use Rattle.gv_exec.specs.declared.done.Done.TheVariants.{Ran, Waits}

-- the interrupt bits that are raised, or None where the command waits
abbrev pub raise_of : Done → Option ℕ
raise_of (Ran raise) = Some raise
raise_of Waits = None
