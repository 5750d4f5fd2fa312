-- The scripts that numbers are put no guest into failsafe.
use Rattle.std.specs.Prelude.{◌≡◌, ℕ, Bool, true, false, None}
use Rattle.std.specs.List.{AllByRecursion}
use Rattle.gv_gen.specs.Made.{script_made}
use Rattle.gv_private.specs.Device.{PrivateDevice}
use Rattle.gv_text.specs.declared.report_line.ReportLine.{ReportLine}
use Rattle.gv_text.specs.declared.report_line.ReportLine.TheVariants as said
use Rattle.gv_machine.specs.Machine.{Happened, Done, new_machine}
use Rattle.gv_machine.specs.Report.{course_of, script_said}

-- a reply tells no reason of failsafe
abbrev pub IsQuiet : Happened → Type 0
IsQuiet h = h.reply.failsafe ≡ None

-- and so do all that came of an input
abbrev pub AreQuiet : Done → Type 0
AreQuiet d = AllByRecursion IsQuiet d.events

-- No reply in the course of a number's script tells a reason of failsafe.
abbrev pub NoReplyTellsFailsafe : Type 0
NoReplyTellsFailsafe = (number : ℕ) → AllByRecursion AreQuiet (course_of new_machine (script_made number)).came

-- In the end no device is in failsafe.
abbrev pub NoDeviceIsInFailsafe : Type 0
NoDeviceIsInFailsafe = (number : ℕ) → AllByRecursion (λ (p : PrivateDevice). p.failsafe ≡ false) (course_of new_machine (script_made number)).left.devices

abbrev pub tells_failsafe : ReportLine → Bool
tells_failsafe (said.Failsafe guest reason) = true
tells_failsafe line = false

-- So no line of its report does.
abbrev pub NoLineTellsFailsafe : Type 0
NoLineTellsFailsafe = (number : ℕ) → AllByRecursion (λ (line : ReportLine). tells_failsafe line ≡ false) (script_said new_machine (script_made number))
