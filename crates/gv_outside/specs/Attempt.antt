-- What a call of a std reader or writer comes to.
use Rattle.std.specs.Prelude.{ℕ, Bool, Result, Ok, Err, nat_lt, ◌||◌, if◌then◌else◌}
use Rattle.std.specs.IoError.{error_kind}
use Rattle.std.specs.declared.io.Error.{Error}
use Rattle.std.specs.declared.io.ErrorKind.{ErrorKind}
use Rattle.std.specs.declared.io.ErrorKind.TheVariants.{Interrupted}
use Rattle.gv_outside.specs.declared.attempt.Attempt.{Attempt}
use Rattle.gv_outside.specs.declared.attempt.Attempt.TheVariants.{Took, Again, Failed}

abbrev pub attempt_by_kind : ErrorKind → Attempt
attempt_by_kind Interrupted = Again
attempt_by_kind kind = Failed

-- One that was interrupted is made again. Any other error is a failure, and so is to take nothing,
-- unless the call may take nothing: a read at the end of input, or a write of nothing.
abbrev pub attempt_of : Result ℕ Error → Bool → Attempt
attempt_of (Ok count) may_take_nothing = if nat_lt 0 count || may_take_nothing then Took count else Failed
attempt_of (Err error) may_take_nothing = attempt_by_kind (error_kind error)
