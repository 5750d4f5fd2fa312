use Rattle.gv_exact.proofs.Whole.{only_recorded_is_written}
use Rattle.gv_exact.proofs.Twin.{only_recorded_is_read, only_recorded_code_is_read}
use Rattle.gv_exact.proofs.laws.records_are_whole.Goals as goal

pub returns-clause-written : goal.returns-clause-written
returns-clause-written c = only_recorded_is_written

pub returns-clause-read : goal.returns-clause-read
returns-clause-read c = only_recorded_is_read

pub returns-clause-code : goal.returns-clause-code
returns-clause-code c = only_recorded_code_is_read
