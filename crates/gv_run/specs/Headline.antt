-- What the program promises of each command.
use Rattle.std.specs.Prelude.{◌≡◌, ◌≢◌, ℕ, ◌+◌, ◌≤◌, List, Bool, true, false, Option, Some, IfSome, map, take, drop}
use Rattle.std.specs.Io.KnownBytes.{Appends}
use Rattle.gv_text.specs.declared.ending.Ending.{Ending}
use Rattle.gv_text.specs.declared.ending.Ending.TheVariants as endings
use Rattle.gv_text.specs.Script.{script_limit}
use Rattle.gv_gpu.specs.Device.{Device, JournalEntry, counted}
use Rattle.gv_machine.specs.Laws.{IsPrivate}
use Rattle.gv_machine.specs.Report.{report_of, ending_of, machine_of, commands_in}
use Rattle.gv_mediator.specs.Laws.{HasMemories}
use Rattle.gv_outside.specs.Causes.{Rose}
use Rattle.gv_vgpu.specs.Changes.{journal_entry}
use Rattle.gv_run.specs.Made.{summary_made, entries_made, machine_made}
use Rattle.gv_run.specs.Streamed.{StopsAtFault, WritesFront}
use Rattle.gv_run.specs.declared.call.Status.{Status}
use Rattle.gv_run.specs.declared.call.Status.TheVariants.{Done, OutOfMemory, BadWords, ReadFault, WriteFault, BadScript, TooLong, DeviceFault}
use Rattle.gv_run.specs.declared.stopped.Stopped.{Stopped}
use Rattle.gv_run.specs.declared.stopped.Stopped.TheVariants as stops

abbrev pub status_of : Ending → Status
status_of endings.Done = Done
status_of (endings.BadScript n) = BadScript n
status_of endings.TooLong = TooLong

abbrev pub status_of_stop : Stopped → Status
status_of_stop stops.OutOfMemory = OutOfMemory
status_of_stop stops.Read = ReadFault
status_of_stop stops.Write = WriteFault
status_of_stop stops.Device = DeviceFault

-- whether a status says how the script ended
abbrev pub tells_ending : Status → Bool
tells_ending Done = true
tells_ending (BadScript n) = true
tells_ending TooLong = true
tells_ending status = false

-- ---- what is taken, written and run

-- A front of at most so many bytes was taken from a source.
abbrev pub TakesAtMost : ℕ → Option (List ℕ) → Option (List ℕ) → Type 0
TakesAtMost most before after = (n : ℕ) × (n ≤ most) × IfSome before (λ bytes. after ≡ Some (drop n bytes))

-- a front of the script's report was written
abbrev pub WritesPart : Option (List ℕ) → Option (List ℕ) → List ℕ → Type 0
WritesPart old new source = (n : ℕ) × Appends old new (take n (report_of source))

-- A front of the commands of the script's devices is in the journal.
abbrev pub RanPartOf : Device → List ℕ → Type 0
RanPartOf d source = (n : ℕ) × (d.journal ≡ take n (map journal_entry (commands_in source)))

-- a front of these commands is in the journal
abbrev pub RanFrontOf : List JournalEntry → Device → Type 0
RanFrontOf ran d = (n : ℕ) × (d.journal ≡ take n ran)

-- what was written is such a text
abbrev pub WritesPrivate : Option (List ℕ) → Option (List ℕ) → List ℕ → Type 0
WritesPrivate old new source = (text : List ℕ) × Appends old new text × IsPrivate source text

-- ---- the commands

-- The command `run`: a script is read from a source, run over a device that was empty, and its report written to a sink.
-- These are known of it: how it went; what the source had left before and after, where it tells that, and how often it had
-- failed; what the sink held, and how often it had failed; and the device.
pub record RunsScript (status : Status) (left left_after : Option (List ℕ)) (reads reads_after : ℕ) (held held_after : Option (List ℕ)) (writes writes_after : ℕ) (d e : Device) : Type 0 where
  -- A status that says how the script ended is the script's ending,
  pub ending : tells_ending status ≡ true → IfSome left (λ bytes. status ≡ status_of (ending_of bytes))
  -- and then the report of one unshared device for each guest was written, no more and no less.
  pub report : tells_ending status ≡ true → IfSome left (λ bytes. Appends held held_after (report_of bytes))
  -- Each guest's lines of it are the report of its own private device alone.
  pub private : tells_ending status ≡ true → IfSome left (WritesPrivate held held_after)
  -- Whatever the status, a front of the report was written.
  pub part : IfSome left (WritesPart held held_after)
  -- No byte is taken behind the first one past the limit.
  pub taken : TakesAtMost (script_limit + 1) left left_after
  -- The device ran the commands of these devices, and whatever the status a front of them,
  pub journal : tells_ending status ≡ true → IfSome left (λ bytes. e.journal ≡ map journal_entry (commands_in bytes))
  pub journal_part : IfSome left (RanPartOf e)
  -- touched no page that isn't its guest's,
  pub strays : e.strays ≡ 0
  -- and has their memories when the script was run to its end.
  pub pages : status ≡ Done → IfSome left (λ bytes. HasMemories e (machine_of bytes))
  -- A line is run as soon as its line feed was taken, and what it says is written before a read fault is answered.
  pub fault : status ≡ ReadFault → IfSome left (λ bytes. StopsAtFault left left_after held held_after)
  -- Words that name the command are never called bad.
  pub words : status ≢ BadWords
  -- A fault is answered only where it was counted,
  pub read : status ≡ ReadFault → Rose reads reads_after
  pub write : status ≡ WriteFault → Rose writes writes_after
  pub device : status ≡ DeviceFault → counted d.faults ≤ e.faults
  -- and one of the device is never passed over, nor told as anything else.
  pub quiet : status ≢ DeviceFault → e.faults ≡ d.faults
  -- Where nothing failed and memory wasn't wanting, the status says how the script ended.
  pub complete : ¬ Rose reads reads_after → ¬ Rose writes writes_after → ¬ (counted d.faults ≤ e.faults) → status ≢ OutOfMemory → tells_ending status ≡ true

-- The command `gen` with a number: the script that the number makes is run over a device that was empty, and the summary
-- of its report written to a sink. No source is read.
pub record SumsUp (number : ℕ) (status : Status) (held held_after : Option (List ℕ)) (writes writes_after : ℕ) (d e : Device) : Type 0 where
  -- Such a script is never refused, nor too long,
  pub ending : tells_ending status ≡ true → status ≡ Done
  -- and then the summary was written, no more and no less.
  pub summary : status ≡ Done → Appends held held_after (summary_made number)
  -- Whatever the status, a front of it was written.
  pub part : WritesFront (summary_made number) held held_after
  -- The device ran the commands of the script's devices, and whatever the status a front of them,
  pub journal : status ≡ Done → e.journal ≡ entries_made number
  pub journal_part : RanFrontOf (entries_made number) e
  -- touched no page that isn't its guest's,
  pub strays : e.strays ≡ 0
  -- and has their memories when the script was run to its end.
  pub pages : status ≡ Done → HasMemories e (machine_made number)
  -- Words that name the command are never called bad, and no source fails.
  pub words : status ≢ BadWords
  pub read : status ≢ ReadFault
  -- A fault is answered only where it was counted,
  pub write : status ≡ WriteFault → Rose writes writes_after
  pub device : status ≡ DeviceFault → counted d.faults ≤ e.faults
  -- and one of the device is never passed over, nor told as anything else.
  pub quiet : status ≢ DeviceFault → e.faults ≡ d.faults
  -- Where nothing failed and memory wasn't wanting, the script was run to its end.
  pub complete : ¬ Rose writes writes_after → ¬ (counted d.faults ≤ e.faults) → status ≢ OutOfMemory → status ≡ Done
