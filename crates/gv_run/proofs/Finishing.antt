-- A script whose lines were run is finished by what is said at its end.
use Rattle.std.proofs.Common.{◌≡◌, ℕ, List, [], ◌++◌, Option, None, Some, IfSome, map, take, drop, refl, ap, sym, ◌∙◌, subst}
use Rattle.std.specs.Io.KnownBytes.{Appends}
use Rattle.std.proofs.lemmas.List.{take-append-drop}
use Rattle.gv_text.specs.Report.{text_of}
use Rattle.gv_text.specs.Script.{Script, script_of}
use Rattle.gv_text.specs.declared.ending.Ending.{Ending}
use Rattle.gv_text.specs.declared.ending.Ending.TheVariants.{Done}
use Rattle.gv_gpu.specs.Change.{Ran}
use Rattle.gv_gpu.specs.Device.{Device}
use Rattle.gv_lines.specs.Outlet.{Delivery, Gets, GetsFront, Passes, got, in_sink}
use Rattle.gv_lines.specs.declared.outlet.Outlet.{Outlet}
use Rattle.gv_lines.proofs.Passing.{gets-more, passes-more}
use Rattle.gv_private.specs.Turn.{RanCommand}
use Rattle.gv_machine.specs.Machine.{Machine, new_machine}
use Rattle.gv_machine.specs.Report.{said_all, ending_said, course_of, script_said, report_of, commands_in}
use Rattle.gv_machine.proofs.Scripts.{report_of-script, ending_of-script, machine_of-script, commands_in-script}
use Rattle.gv_vgpu.specs.Changes.{journal_entry}
use Rattle.gv_mediator.specs.Laws.{HasMemories}
use Rattle.gv_run.specs.Streamed.{WritesFront, Begun, RunsLines, Finishes}
use Rattle.gv_run.specs.Tied.{machine_in}
use Rattle.gv_run.specs.declared.stage.Stage.{Stage}
use Rattle.gv_run.proofs.Left.{ran-none, ran-whole, ran-before}
use Rattle.gv_run.proofs.Saying.{front-none, passes-front, said-parts, sink-appends, sink-front}

-- before anything was run or written
pub begun-none : (first : Option (List ℕ)) (d : Device) (a : Option (List ℕ)) → IfSome first (λ bytes. Begun bytes d d a a)
begun-none None d a = tt
begun-none (Some bytes) d a = record { written = front-none (report_of bytes) (in_sink a); ran = ran-before (ran-none d) (map journal_entry (commands_in bytes)) }

-- what is said at the end
abbrev end_text : Ending → Device → Stage → List ℕ
end_text how d stage = text_of (ending_said how (machine_in d stage))

module _ (all : Script) {how : Ending} {start d : Device} {stage : Stage} {held : List ℕ} {a b : Delivery} (lines : RunsLines all how start d stage held a b) (c : Delivery) where
  whole : text_of (said_all (course_of new_machine all).came) ++ end_text how d stage ≡ text_of (script_said new_machine all)
  whole =
      let done = course_of new_machine all in
      ap (λ (e : Ending). text_of (said_all done.came) ++ text_of (ending_said e (machine_in d stage))) lines.ending
      ∙ ap (λ (m : Machine). text_of (said_all done.came) ++ text_of (ending_said all.ending m)) lines.machine
      ∙ said-parts [] (said_all done.came) (ending_said all.ending done.left)

  passed : Passes (text_of (script_said new_machine all)) (held ++ end_text how d stage) a b
  passed = subst (λ l. Passes l (held ++ end_text how d stage) a b) whole (passes-more (text_of (said_all (course_of new_machine all).came)) held (end_text how d stage) a b lines.report)

  pub finish-front : GetsFront (held ++ text_of (ending_said how (machine_in d stage))) b c → GetsFront (text_of (script_said new_machine all)) a c
  finish-front front = passes-front (text_of (script_said new_machine all)) (held ++ end_text how d stage) a b c passed front

  pub finish-gets : Gets b c (held ++ text_of (ending_said how (machine_in d stage))) → Gets a c (text_of (script_said new_machine all))
  finish-gets gets =
      let n = passed.count in
      let report = text_of (script_said new_machine all) in
      subst (Gets a c) (take-append-drop n report)
      (gets-more a b c (take n report) (drop n report) passed.written (subst (Gets b c) passed.rest gets))

-- ---- the script of a source, whose report goes to a sink

module _ (bytes : List ℕ) {how : Ending} {start d : Device} {stage : Stage} {held : List ℕ} {a b : Option (List ℕ)} (lines : RunsLines (script_of bytes) how start d stage held (in_sink a) (in_sink b)) (outlet : Outlet) (c : Option (List ℕ)) where
  all_ran : Ran start d (map journal_entry (commands_in bytes))
  all_ran = subst (λ (ran : List RanCommand). Ran start d (map journal_entry ran)) (sym (commands_in-script bytes (script_of bytes) refl)) lines.ran

  pub finish-begun : GetsFront (held ++ text_of (ending_said how (machine_in d stage))) (in_sink b) (got outlet c) → Begun bytes start d a c
  finish-begun front = record {
    written = subst (λ l. WritesFront l a c) (sym (report_of-script bytes (script_of bytes) refl))
        (sink-front (text_of (script_said new_machine (script_of bytes))) outlet a c (finish-front (script_of bytes) lines (got outlet c) front));
    ran = ran-whole all_ran;
  }

  pub finishes : (how ≡ Done → HasMemories d (machine_in d stage)) → Gets (in_sink b) (got outlet c) (held ++ text_of (ending_said how (machine_in d stage))) → Finishes bytes how start d a c
  finishes memories gets = record {
    ending = lines.ending ∙ sym (ending_of-script bytes (script_of bytes) refl);
    report = subst (Appends a c) (sym (report_of-script bytes (script_of bytes) refl))
        (sink-appends (text_of (script_said new_machine (script_of bytes))) outlet a c (finish-gets (script_of bytes) lines (got outlet c) gets));
    pages = λ is. subst (HasMemories d) (lines.machine ∙ sym (machine_of-script bytes (script_of bytes) refl)) (memories is);
    ran = all_ran;
  }
