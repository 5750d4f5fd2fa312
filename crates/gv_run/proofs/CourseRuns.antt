-- What the run of a course leaves, by why it stopped.
use Rattle.std.proofs.Common.{◌≡◌, ◌≢◌, ◌<◌, ◌≤◌, ℕ, List, Result, Ok, Err, sym, ◌∙◌, ap, subst, arith}
use Rattle.gv_types.specs.declared.reply.Stop.{Stop}
use Rattle.gv_types.specs.declared.reply.Stop.TheVariants.{DeviceFault, OutOfMemory}
use Rattle.gv_gpu.specs.Change.{RanPart}
use Rattle.gv_gpu.specs.Device.{Device, counted}
use Rattle.gv_machine.specs.Course.{Course}
use Rattle.gv_machine.specs.Machine.{Machine, Done}
use Rattle.gv_run.specs.Status.{stop_of}
use Rattle.gv_run.specs.Tied.{Plays, RunsCourse, entries_in}
use Rattle.gv_run.specs.declared.stopped.Stopped.{Stopped}
use Rattle.gv_run.specs.declared.stopped.Stopped.TheVariants as stops
use Rattle.gv_run.proofs.Left.{ran-whole}

-- a count that was 0 rose
pub rose : {before now : ℕ} → before ≡ 0 → counted before ≤ now → 0 < now
rose {before} {now} none more = omega arith

same-stop : {T : Type 0} (x y : Stopped) → ◌≡◌ {A = Result T Stopped} (Err x) (Err y) → x ≡ y
same-stop x y same = cc

err-again : {T U : Type 0} (x y : Stopped) → ◌≡◌ {A = Result T Stopped} (Err x) (Err y) → ◌≡◌ {A = Result U Stopped} (Err x) (Err y)
err-again x y same = ap Err (same-stop x y same)

module _ {T : Type 0} (c : Course Machine Done) (d : Device) (told : List ℕ) (e : Device) (m : Machine) (now : List ℕ) where
  -- it went to its end
  pub runs-done : (value : T) → Plays c d told e m now → e.faults ≡ d.faults → RunsCourse c d told e m now (Ok value)
  runs-done value plays quiet = record {
    done = plays;
    quiet = quiet;
    part = ran-whole plays.ran;
    cause = λ is. absurd (cc);
    memory = λ is. absurd (cc);
    reads = λ is. cc;
    writes = λ is. cc;
  }

  -- it stopped
  by-stop : (s : Stopped) → RanPart d e (entries_in c.came) → (s ≡ stops.Device → 0 < e.faults) → (s ≡ stops.OutOfMemory → e.faults ≡ d.faults) → s ≢ stops.Read → s ≢ stops.Write → RunsCourse {T = T} c d told e m now (Err s)
  by-stop s part cause memory reads writes = record {
    done = tt;
    quiet = tt;
    part = part;
    cause = λ is. cause (same-stop s stops.Device is);
    memory = λ is. memory (same-stop s stops.OutOfMemory is);
    reads = λ is. reads (same-stop s stops.Read is);
    writes = λ is. writes (same-stop s stops.Write is);
  }

  module _ (result : Result T Stopped) where
    -- by the devices
    pub runs-stopped : (stop : Stop) → result ≡ Err (stop_of stop) → RanPart d e (entries_in c.came) → (stop ≡ DeviceFault → 0 < e.faults) → (stop ≡ OutOfMemory → e.faults ≡ d.faults) → RunsCourse c d told e m now result
    runs-stopped stop is part cause memory = subst (RunsCourse c d told e m now) (sym is) (by-which stop cause memory)
      where
        by-which : (stop : Stop) → (stop ≡ DeviceFault → 0 < e.faults) → (stop ≡ OutOfMemory → e.faults ≡ d.faults) → RunsCourse {T = T} c d told e m now (Err (stop_of stop))
        by-which DeviceFault cause memory = by-stop stops.Device part (λ is. cause (λ i. DeviceFault)) (λ is. absurd (cc)) (λ is. cc) (λ is. cc)
        by-which OutOfMemory cause memory = by-stop stops.OutOfMemory part (λ is. absurd (cc)) (λ is. memory (λ i. OutOfMemory)) (λ is. cc) (λ is. cc)

    -- for want of memory
    pub runs-lacking : result ≡ Err stops.OutOfMemory → RanPart d e (entries_in c.came) → e.faults ≡ d.faults → RunsCourse c d told e m now result
    runs-lacking is part quiet = subst (RunsCourse c d told e m now) (sym is) (by-stop stops.OutOfMemory part (λ is. absurd (cc)) (λ is. quiet) (λ is. cc) (λ is. cc))

    -- within a part of it, before which no fault was counted
    pub runs-within :
        {U : Type 0} (s : Stopped) (first : Course Machine Done) (before : Device) (told_before : List ℕ) (machine : Machine) (told_now : List ℕ) → RunsCourse {T = U} first before told_before e machine told_now (Err s)
        → result ≡ Err s → RanPart d e (entries_in c.came) → before.faults ≡ d.faults → RunsCourse c d told e m now result
    runs-within s first before told_before machine told_now stopped is part quiet = subst (RunsCourse c d told e m now) (sym is)
        (by-stop s part (λ same. stopped.cause (ap Err same)) (λ same. stopped.memory (ap Err same) ∙ quiet) (λ same. stopped.reads (ap Err same)) (λ same. stopped.writes (ap Err same)))
