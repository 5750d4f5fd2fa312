-- Why a run stops, and the exit status of the program.
use Rattle.std.specs.Prelude.{ℕ}
use Rattle.gv_types.specs.declared.reply.Stop.{Stop}
use Rattle.gv_types.specs.declared.reply.Stop.TheVariants as stops
use Rattle.gv_run.specs.declared.call.Status.{Status}
use Rattle.gv_run.specs.declared.call.Status.TheVariants.{Done, OutOfMemory, BadWords, ReadFault, WriteFault, BadScript, TooLong, DeviceFault}
use Rattle.gv_run.specs.declared.stopped.Stopped.{Stopped}
use Rattle.gv_run.specs.declared.stopped.Stopped.TheVariants as stopped

abbrev pub code_of : Status → ℕ
code_of Done = 0
code_of OutOfMemory = 1
code_of BadWords = 2
code_of ReadFault = 3
code_of WriteFault = 4
code_of (BadScript n) = 5
code_of TooLong = 6
code_of DeviceFault = 7

-- what stops the devices stops the run
abbrev pub stop_of : Stop → Stopped
stop_of stops.OutOfMemory = stopped.OutOfMemory
stop_of stops.DeviceFault = stopped.Device
