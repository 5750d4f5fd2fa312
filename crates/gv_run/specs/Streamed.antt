-- What is written of a report while its script is read, line by line.
use Rattle.std.specs.Prelude.{◌≡◌, ℕ, List, Option, None, Some, Bool, true, false, map, take}
use Rattle.std.specs.Io.KnownBytes.{Appends, Consumes}
use Rattle.gv_text.specs.Report.{text_of}
use Rattle.gv_text.specs.Script.{Script, script_in}
use Rattle.gv_text.specs.declared.ending.Ending.{Ending}
use Rattle.gv_text.specs.declared.ending.Ending.TheVariants.{Done, BadScript, TooLong}
use Rattle.gv_gpu.specs.Change.{Ran, RanPart}
use Rattle.gv_gpu.specs.Device.{Device}
use Rattle.gv_lines.specs.Outlet.{Delivery, GetsFront, Passes, in_sink}
use Rattle.gv_lines.specs.declared.next.Next.{Next}
use Rattle.gv_lines.specs.declared.next.Next.TheVariants.{Line, LastLine, LongLine, End, PastLimit}
use Rattle.gv_machine.specs.Machine.{new_machine}
use Rattle.gv_machine.specs.Report.{said_all, course_of, report_of, ending_of, machine_of, commands_in}
use Rattle.gv_vgpu.specs.Changes.{journal_entry}
use Rattle.gv_mediator.specs.Laws.{HasMemories}
use Rattle.gv_run.specs.Tied.{entries_in, machine_in}
use Rattle.gv_run.specs.declared.stage.Stage.{Stage}

-- a front of a text was written
abbrev pub WritesFront : List ℕ → Option (List ℕ) → Option (List ℕ) → Type 0
WritesFront text old new = GetsFront text (in_sink old) (in_sink new)

-- ---- where a source fails behind some bytes

-- the report of exactly the lines whose line feed is among the bytes that were taken
unfoldable pub report_so_far : List ℕ → List ℕ
report_so_far taken = text_of (said_all (course_of new_machine (script_in false taken)).came)

-- how a script ends that has more bytes behind these: it is too long where none of their lines ends it
unfoldable pub ending_so_far : List ℕ → Ending
ending_so_far taken = (script_in false taken).ending

-- The bytes that were taken hold neither a refused line nor a whole `end` line, and the report of the lines
-- whose line feed is among them was written.
pub record StopsAtFault (before after old new : Option (List ℕ)) : Type 0 where
  pub taken : List ℕ
  pub source : Consumes before after taken
  pub going : ending_so_far taken ≡ TooLong
  pub report : Appends old new (report_so_far taken)

-- ---- the whole script

-- whatever came: a front of the report was written, and a front of the commands ran
pub record Begun (bytes : List ℕ) (start d : Device) (old new : Option (List ℕ)) : Type 0 where
  pub written : WritesFront (report_of bytes) old new
  pub ran : RanPart start d (map journal_entry (commands_in bytes))

-- The lines of a script were run. Of what they said an outlet got a front, and the rest is held.
pub record RunsLines (all : Script) (how : Ending) (start d : Device) (stage : Stage) (held : List ℕ) (old new : Delivery) : Type 0 where
  pub ending : how ≡ all.ending
  pub machine : machine_in d stage ≡ (course_of new_machine all).left
  pub report : Passes (text_of (said_all (course_of new_machine all).came)) held old new
  pub ran : Ran start d (entries_in (course_of new_machine all).came)

-- A script was run, and its report written.
pub record Finishes (bytes : List ℕ) (how : Ending) (start d : Device) (old new : Option (List ℕ)) : Type 0 where
  pub ending : how ≡ ending_of bytes
  pub report : Appends old new (report_of bytes)
  pub pages : how ≡ Done → HasMemories d (machine_of bytes)
  pub ran : Ran start d (map journal_entry (commands_in bytes))

-- the ending, where no line comes next, and it would be the line with this number
abbrev pub ending_at : Next → ℕ → Option Ending
ending_at Line n = None
ending_at LastLine n = None
ending_at LongLine n = Some (BadScript n)
ending_at End n = Some (BadScript n)
ending_at PastLimit n = Some TooLong

-- whether it is the last line, which has no line feed
abbrev pub is_last : Next → Bool
is_last LastLine = true
is_last next = false
