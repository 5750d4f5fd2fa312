-- What comes of the script of a number: its report is summed up.
use Rattle.std.specs.Prelude.{ℕ, List, Option, map}
use Rattle.std.specs.Io.KnownBytes.{Appends}
use Rattle.gv_gen.specs.Made.{script_made}
use Rattle.gv_gpu.specs.Change.{Ran, RanPart}
use Rattle.gv_gpu.specs.Device.{Device, JournalEntry}
use Rattle.gv_lines.specs.Summary.{no_totals, totals_after, summary_lines}
use Rattle.gv_machine.specs.Machine.{Machine, new_machine, ran_all}
use Rattle.gv_machine.specs.Report.{course_of, script_said}
use Rattle.gv_vgpu.specs.Changes.{journal_entry}
use Rattle.gv_mediator.specs.Laws.{HasMemories}
use Rattle.gv_text.specs.Report.{text_of}
use Rattle.gv_run.specs.Streamed.{WritesFront}

-- the report of the script
unfoldable pub report_made : ℕ → List ℕ
report_made number = text_of (script_said new_machine (script_made number))

-- its summary
unfoldable pub summary_made : ℕ → List ℕ
summary_made number = text_of (summary_lines (totals_after no_totals (report_made number)))

-- the machine in the end
unfoldable pub machine_made : ℕ → Machine
machine_made number = (course_of new_machine (script_made number)).left

-- the commands that the devices ran, in order, as the shared device's journal has them
unfoldable pub entries_made : ℕ → List JournalEntry
entries_made number = map journal_entry (ran_all (course_of new_machine (script_made number)).came)

-- whatever came: a front of the summary was written, and a front of the commands ran
pub record MadePart (number : ℕ) (start d : Device) (old new : Option (List ℕ)) : Type 0 where
  pub written : WritesFront (summary_made number) old new
  pub ran : RanPart start d (entries_made number)

-- The script was run, and the summary of its report written.
pub record MadeWhole (number : ℕ) (start d : Device) (old new : Option (List ℕ)) : Type 0 where
  pub written : Appends old new (summary_made number)
  pub pages : HasMemories d (machine_made number)
  pub ran : Ran start d (entries_made number)
