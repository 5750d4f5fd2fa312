-- What each command promises, by how its run ended.
use Rattle.std.proofs.Common.{◌≡◌, ◌≢◌, ◌<◌, ◌≤◌, ◌+◌, ℕ, List, Option, Bool, true, false, IfSome, refl, ap, sym, ◌∙◌, arith}
use Rattle.gv_outside.specs.Causes.{Rose}
use Rattle.gv_text.specs.Script.{script_limit}
use Rattle.gv_text.specs.declared.ending.Ending.{Ending}
use Rattle.gv_text.specs.declared.ending.Ending.TheVariants as endings
use Rattle.gv_gpu.specs.Device.{Device, IsEmpty, counted}
use Rattle.gv_machine.specs.Report.{report_of}
use Rattle.gv_machine.proofs.Isolation.{each_guest_is_told_its_own}
use Rattle.gv_run.specs.Headline.{RunsScript, SumsUp, TakesAtMost, status_of, status_of_stop, tells_ending}
use Rattle.gv_run.specs.Made.{MadePart, MadeWhole}
use Rattle.gv_run.specs.Streamed.{Begun, Finishes, StopsAtFault}
use Rattle.gv_run.specs.declared.call.Status.{Status}
use Rattle.gv_run.specs.declared.call.Status.TheVariants.{Done, OutOfMemory, BadWords, ReadFault, WriteFault, BadScript, TooLong, DeviceFault}
use Rattle.gv_run.specs.declared.stopped.Stopped.{Stopped}
use Rattle.gv_run.specs.declared.stopped.Stopped.TheVariants as stops
use Rattle.gv_run.proofs.Journal.{journal-all, journal-part}
use Rattle.gv_run.proofs.Stopping.{unless-device}
use Rattle.gv_run.proofs.Streaming.{if_some}

-- ---- statuses

tells : (ending : Ending) → tells_ending (status_of ending) ≡ true
tells endings.Done = refl
tells (endings.BadScript n) = refl
tells endings.TooLong = refl

-- the status of an ending is none that tells no ending
is-ending : (ending : Ending) (status : Status) → tells_ending status ≡ false → status_of ending ≢ status
is-ending ending status silent same = let told : tells_ending status ≡ true = sym (ap tells_ending same) ∙ tells ending in cc

done-only : (ending : Ending) → status_of ending ≡ Done → ending ≡ endings.Done
done-only endings.Done is = refl
done-only (endings.BadScript n) is = absurd (cc)
done-only endings.TooLong is = absurd (cc)

silent : (stopped : Stopped) → tells_ending (status_of_stop stopped) ≡ false
silent stops.OutOfMemory = refl
silent stops.Read = refl
silent stops.Write = refl
silent stops.Device = refl

untold : (stopped : Stopped) → tells_ending (status_of_stop stopped) ≢ true
untold stopped is = let none = silent stopped in cc

-- why it stopped, by the status
why : Status → Stopped
why ReadFault = stops.Read
why WriteFault = stops.Write
why DeviceFault = stops.Device
why status = stops.OutOfMemory

why-it-stopped : (stopped : Stopped) → why (status_of_stop stopped) ≡ stopped
unfolding why
why-it-stopped stops.OutOfMemory = refl
why-it-stopped stops.Read = refl
why-it-stopped stops.Write = refl
why-it-stopped stops.Device = refl

same-stop : (s t : Stopped) → status_of_stop s ≡ status_of_stop t → s ≡ t
same-stop s t same = sym (why-it-stopped s) ∙ ap why same ∙ why-it-stopped t

not-done : (stopped : Stopped) → status_of_stop stopped ≢ Done
not-done stopped same = untold stopped (ap tells_ending same)

not-words : (stopped : Stopped) → status_of_stop stopped ≢ BadWords
not-words stops.OutOfMemory same = cc
not-words stops.Read same = cc
not-words stops.Write same = cc
not-words stops.Device same = cc

-- ---- a device that was empty

module _ (held held_after : Option (List ℕ)) (writes writes_after : ℕ) (d e : Device) (empty : IsEmpty d) (strays : e.strays ≡ d.strays) where
  no-strays : e.strays ≡ 0
  no-strays = strays ∙ ap (λ (x : Device). x.strays) empty

  rises : 0 < e.faults → counted d.faults ≤ e.faults
  rises some = let none : d.faults ≡ 0 = ap (λ (x : Device). x.faults) empty in rw none (omega arith)

  -- where it stopped and nothing rose, memory was wanting
  all-well : {P : Type 0} (stopped : Stopped) → (stopped ≢ stops.Read) → (stopped ≡ stops.Write → Rose writes writes_after) → (stopped ≡ stops.Device → 0 < e.faults)
      → ¬ Rose writes writes_after → ¬ (counted d.faults ≤ e.faults) → status_of_stop stopped ≢ OutOfMemory → P
  all-well stops.OutOfMemory reading writing device sink gpu memory = absurd (memory refl)
  all-well stops.Read reading writing device sink gpu memory = absurd (reading refl)
  all-well stops.Write reading writing device sink gpu memory = absurd (sink (writing refl))
  all-well stops.Device reading writing device sink gpu memory = absurd (gpu (rises (device refl)))

  -- ---- the command `run`

  module _ (left left_after : Option (List ℕ)) (reads reads_after : ℕ) (begun : IfSome left (λ bytes. Begun bytes d e held held_after)) (taken : TakesAtMost (script_limit + 1) left left_after) where
    pub script-ended : (ending : Ending) → IfSome left (λ bytes. Finishes bytes ending d e held held_after) → e.faults ≡ d.faults → RunsScript (status_of ending) left left_after reads reads_after held held_after writes writes_after d e
    script-ended ending finishes quiet = record {
      ending = λ told. if_some left (λ bytes is done. ap status_of done.ending) finishes;
      report = λ told. if_some left (λ bytes is done. done.report) finishes;
      private = λ told. if_some left (λ bytes is done. (report_of bytes, done.report, each_guest_is_told_its_own bytes)) finishes;
      part = if_some left (λ bytes is begun. begun.written) begun;
      taken = taken;
      journal = λ told. if_some left (λ bytes is done. journal-all empty done.ran) finishes;
      journal_part = if_some left (λ bytes is begun. journal-part empty begun.ran) begun;
      strays = no-strays;
      pages = λ same. if_some left (λ bytes is done. done.pages (done-only ending same)) finishes;
      fault = λ same. absurd (is-ending ending ReadFault refl same);
      words = is-ending ending BadWords refl;
      read = λ same. absurd (is-ending ending ReadFault refl same);
      write = λ same. absurd (is-ending ending WriteFault refl same);
      device = λ same. absurd (is-ending ending DeviceFault refl same);
      quiet = λ other. quiet;
      complete = λ source sink gpu memory. tells ending;
    }

    pub script-stopped : (stopped : Stopped)
        → (stopped ≡ stops.Read → IfSome left (λ bytes. StopsAtFault left left_after held held_after))
        → (stopped ≡ stops.Read → Rose reads reads_after) → (stopped ≡ stops.Write → Rose writes writes_after) → (stopped ≡ stops.Device → 0 < e.faults)
        → (stopped ≡ stops.OutOfMemory → e.faults ≡ d.faults) → (stopped ≡ stops.Read → e.faults ≡ d.faults) → (stopped ≡ stops.Write → e.faults ≡ d.faults)
        → RunsScript (status_of_stop stopped) left left_after reads reads_after held held_after writes writes_after d e
    script-stopped stopped fault read write device memory reading writing = record {
      ending = λ told. absurd (untold stopped told);
      report = λ told. absurd (untold stopped told);
      private = λ told. absurd (untold stopped told);
      part = if_some left (λ bytes is begun. begun.written) begun;
      taken = taken;
      journal = λ told. absurd (untold stopped told);
      journal_part = if_some left (λ bytes is begun. journal-part empty begun.ran) begun;
      strays = no-strays;
      pages = λ same. absurd (not-done stopped same);
      fault = λ same. fault (same-stop stopped stops.Read same);
      words = not-words stopped;
      read = λ same. read (same-stop stopped stops.Read same);
      write = λ same. write (same-stop stopped stops.Write same);
      device = λ same. rises (device (same-stop stopped stops.Device same));
      quiet = unless-device stopped (e.faults ≡ d.faults) memory reading writing;
      complete = λ source sink gpu wanting. all-well stopped (λ is. source (read is)) write device sink gpu wanting;
    }

  -- ---- the command `gen`

  module _ (number : ℕ) (part : MadePart number d e held held_after) where
    pub summed-up : MadeWhole number d e held held_after → e.faults ≡ d.faults → SumsUp number Done held held_after writes writes_after d e
    summed-up whole quiet = record {
      ending = λ told. refl;
      summary = λ is. whole.written;
      part = part.written;
      journal = λ is. journal-all empty whole.ran;
      journal_part = journal-part empty part.ran;
      strays = no-strays;
      pages = λ is. whole.pages;
      words = λ is. cc;
      read = λ is. cc;
      write = λ is. absurd (cc);
      device = λ is. absurd (cc);
      quiet = λ other. quiet;
      complete = λ sink gpu memory. refl;
    }

    pub summing-stopped : (stopped : Stopped) → stopped ≢ stops.Read → (stopped ≡ stops.Write → Rose writes writes_after) → (stopped ≡ stops.Device → 0 < e.faults)
        → (stopped ≡ stops.OutOfMemory → e.faults ≡ d.faults) → (stopped ≡ stops.Write → e.faults ≡ d.faults) → SumsUp number (status_of_stop stopped) held held_after writes writes_after d e
    summing-stopped stopped read write device memory writing = record {
      ending = λ told. absurd (untold stopped told);
      summary = λ same. absurd (not-done stopped same);
      part = part.written;
      journal = λ same. absurd (not-done stopped same);
      journal_part = journal-part empty part.ran;
      strays = no-strays;
      pages = λ same. absurd (not-done stopped same);
      words = not-words stopped;
      read = λ same. read (same-stop stopped stops.Read same);
      write = λ same. write (same-stop stopped stops.Write same);
      device = λ same. rises (device (same-stop stopped stops.Device same));
      quiet = unless-device stopped (e.faults ≡ d.faults) memory (λ is. absurd (read is)) writing;
      complete = λ sink gpu wanting. all-well stopped read write device sink gpu wanting;
    }
