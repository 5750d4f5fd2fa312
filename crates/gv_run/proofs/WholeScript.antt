-- A script that is run: what of its report an outlet got, and what that is where no line is left.
use Rattle.std.proofs.Common.{◌≡◌, ℕ, List, [], ◌++◌, map, ap, sym, ◌∙◌, subst, append-nil}
use Rattle.gv_text.specs.Report.{text_of}
use Rattle.gv_text.specs.Script.{Script, ends}
use Rattle.gv_text.specs.declared.ending.Ending.{Ending}
use Rattle.gv_gpu.specs.Change.{Ran}
use Rattle.gv_gpu.specs.Device.{Device}
use Rattle.gv_lines.specs.Outlet.{Delivery, GetsFront, Passes}
use Rattle.gv_private.specs.Turn.{RanCommand}
use Rattle.gv_machine.specs.Machine.{Machine, new_machine, ran_all}
use Rattle.gv_machine.specs.Report.{said_all, course_of, ending_said, script_said}
use Rattle.gv_machine.proofs.Text.{said_none}
use Rattle.gv_vgpu.specs.Changes.{journal_entry}
use Rattle.gv_run.specs.Streamed.{RunsLines}
use Rattle.gv_run.specs.Tied.{machine_in}
use Rattle.gv_run.specs.declared.stage.Stage.{Stage}
use Rattle.gv_run.proofs.Left.{GoesOf}
use Rattle.gv_run.proofs.Saying.{front-longer, front-said, passes-part}

module _ (start : Device) (all : Script) (m : Machine) (said : List ℕ) (d : Device) (left : Script) (kept : GoesOf new_machine [] start all m said d left) (held : List ℕ) (a b : Delivery) (passed : Passes said held a b) where
  -- a front of what is said in all
  pub said-front : GetsFront (text_of (said_all (course_of new_machine all).came)) a b
  said-front = subst (λ l. GetsFront l a b) kept.left.course.report
      (front-longer said (text_of (said_all (course_of m left).came)) a b (passes-part said held a b passed))

  -- nothing is left
  module _ (ending : Ending) (is : left ≡ ends ending) where
    pub same-ending : ending ≡ all.ending
    same-ending = sym (ap (λ (s : Script). s.ending) is) ∙ kept.left.ending

    pub said-all : said ≡ text_of (said_all (course_of new_machine all).came)
    said-all = said_none said ∙ sym (ap (λ (s : Script). said ++ text_of (said_all (course_of m s).came)) is) ∙ kept.left.course.report

    all-ran : kept.ran ≡ ran_all (course_of new_machine all).came
    all-ran = sym (append-nil kept.ran) ∙ sym (ap (λ (s : Script). kept.ran ++ ran_all (course_of m s).came) is) ∙ kept.left.course.journal

    pub runs-lines : (stage : Stage) → m ≡ machine_in d stage → RunsLines all ending start d stage held a b
    runs-lines stage own = record {
      ending = same-ending;
      machine = sym own ∙ sym (ap (λ (s : Script). (course_of m s).left) is) ∙ kept.left.course.machine;
      report = subst (λ l. Passes l held a b) said-all passed;
      ran = subst (λ (l : List RanCommand). Ran start d (map journal_entry l)) all-ran kept.done;
    }

-- a front of a script's report, from a front of what its lines said
pub script-front : (all : Script) (a b : Delivery) → GetsFront (text_of (said_all (course_of new_machine all).came)) a b → GetsFront (text_of (script_said new_machine all)) a b
script-front all a b front =
    let c = course_of new_machine all in
    front-said [] (said_all c.came) (ending_said all.ending c.left) a b front
