-- The script of a number, line by line: what was said so far, and what is left.
use Rattle.std.proofs.Common.{◌≡◌, ℕ, ◌+◌, true, false, List, [], ◌∷◌, ◌++◌, cond, refl, ap, sym, ◌∙◌, subst}
use Rattle.std.specs.Bool.{OnFalse}
use Rattle.std.proofs.lemmas.Bool.{OnFalse_at}
use Rattle.gv_text.specs.Grammar.{IsForm}
use Rattle.gv_text.specs.Report.{text_of}
use Rattle.gv_text.specs.Script.{Script, accepts, ends, onto_script, nothing_known, known_after, is_end}
use Rattle.gv_text.specs.declared.ending.Ending.TheVariants.{Done}
use Rattle.gv_text.specs.declared.known.Known.{Known}
use Rattle.gv_text.specs.declared.script_line.Line.{Line}
use Rattle.gv_gen.specs.Made.{AreAccepted, script_of_lines, script_made}
use Rattle.gv_gen.specs.Script.{script_of_number}
use Rattle.gv_gen.proofs.Accepted.{all_accepted, first-accepted}
use Rattle.gv_gpu.specs.Change.{Ran, RanPart}
use Rattle.gv_gpu.specs.Device.{Device}
use Rattle.gv_lines.specs.Outlet.{Delivery, GetsFront, Passes}
use Rattle.gv_lines.proofs.Passing.{passes-none, passes-more, passes-trans}
use Rattle.gv_machine.specs.Machine.{Machine, new_machine, line_course}
use Rattle.gv_machine.specs.Report.{said_all, course_of, script_said}
use Rattle.gv_run.specs.Made.{report_made, entries_made}
use Rattle.gv_run.specs.Streamed.{RunsLines}
use Rattle.gv_run.specs.Tied.{entries_in, machine_in}
use Rattle.gv_run.specs.declared.stage.Stage.{Stage}
use Rattle.gv_run.proofs.Left.{GoesOf, goes-whole, goes-part, script-goes, script-still, line-went, line-stops}
use Rattle.gv_run.proofs.WholeScript.{said-front, runs-lines, script-front}

-- Lines of a script were run: what they said is held, or an outlet got it. The script that is left is that of the
-- lines that are left, and these are accepted.
pub record Making (all : Script) (start : Device) (old : Delivery) (lines : List Line) (known : Known) (m : Machine) (held : List ℕ) (d : Device) (now : Delivery) : Type 0 where
  pub number : ℕ
  pub said : List ℕ
  pub passed : Passes said held old now
  pub left : GoesOf new_machine [] start all m said d (script_of_lines known number lines)
  pub accepted : AreAccepted known lines

-- before the first line
making-new : (number : ℕ) (start : Device) (old : Delivery) → Making (script_made number) start old (script_of_number number) nothing_known new_machine [] start old
unfolding script_made
making-new number start old = record {
  number = 1;
  said = [];
  passed = passes-none [] old;
  left = goes-whole new_machine [] start (script_of_lines nothing_known 1 (script_of_number number));
  accepted = all_accepted number;
}

pub making-start : (number : ℕ) (start : Device) (old : Delivery) (lines : List Line) (known : Known) (m : Machine) (held : List ℕ) → lines ≡ script_of_number number → known ≡ nothing_known → m ≡ new_machine → held ≡ [] → Making (script_made number) start old lines known m held start old
making-start number start old lines known m held all nothing none empty =
    subst (λ (l : List Line). Making (script_made number) start old l known m held start old) (sym all)
    (subst (λ (k : Known). Making (script_made number) start old (script_of_number number) k m held start old) (sym nothing)
    (subst (λ (m : Machine). Making (script_made number) start old (script_of_number number) nothing_known m held start old) (sym none)
    (subst (λ (h : List ℕ). Making (script_made number) start old (script_of_number number) nothing_known new_machine h start old) (sym empty)
    (making-new number start old))))

module _ {all : Script} {start : Device} {old : Delivery} {lines : List Line} {known : Known} {m : Machine} {held : List ℕ} {d : Device} {now : Delivery} (kept : Making all start old lines known m held d now) where
  -- a front of the report
  pub making-front : GetsFront (text_of (script_said new_machine all)) old now
  making-front = script-front all old now (said-front start all m kept.said d _ kept.left held old now kept.passed)

  -- a front of the commands
  pub making-ran : RanPart start d (entries_in (course_of new_machine all).came)
  making-ran = goes-part (course_of new_machine all) [] start _ kept.said d (script-goes new_machine m [] kept.said start d all _ kept.left)

  -- the device goes on, and nothing runs; the same text is held
  pub making-still : (e : Device) → Ran d e [] → (later : List ℕ) → later ≡ held → Making all start old lines known m later e now
  making-still e none later is = subst (λ (h : List ℕ). Making all start old lines known m h e now) (sym is) (record {
    number = kept.number;
    said = kept.said;
    passed = kept.passed;
    left = script-still new_machine m [] kept.said start d all _ kept.left e none;
    accepted = kept.accepted;
  })

  -- more of what is held passes
  pub making-passed : (later : List ℕ) (b : Delivery) → Passes held later now b → Making all start old lines known m later d b
  making-passed later b passes = record {
    number = kept.number;
    said = kept.said;
    passed = passes-trans kept.said held later old now b kept.passed passes;
    left = kept.left;
    accepted = kept.accepted;
  }

  -- no line is left, which can't be
  pub making-over : lines ≡ [] → ⊥
  making-over none = subst (AreAccepted known) none kept.accepted

  -- a line comes
  module _ (line : Line) (rest : List Line) (is : lines ≡ line ∷ rest) where
    accepted_line : AreAccepted known (line ∷ rest)
    accepted_line = subst (AreAccepted known) is kept.accepted

    pub making-accepts : accepts known line ≡ true
    making-accepts = accepted_line.0

    pub making-form : IsForm line
    making-form = accepted_line.1

    by_end : script_of_lines known kept.number lines ≡ cond (is_end line) (ends Done) (onto_script line (script_of_lines (known_after known line) (kept.number + 1) rest))
    by_end = ap (script_of_lines known kept.number) is ∙ first-accepted known kept.number line rest accepted_line

    pub making-ended : is_end line ≡ true → (stage : Stage) → m ≡ machine_in d stage → RunsLines all Done start d stage held old now
    making-ended last stage own = runs-lines start all m kept.said d _ kept.left held old now kept.passed Done
        (by_end ∙ ap (λ b. cond b (ends Done) (onto_script line (script_of_lines (known_after known line) (kept.number + 1) rest))) last) stage own

    module _ (last : is_end line ≡ false) where
      first : script_of_lines known kept.number lines ≡ onto_script line (script_of_lines (known_after known line) (kept.number + 1) rest)
      first = by_end ∙ ap (λ b. cond b (ends Done) (onto_script line (script_of_lines (known_after known line) (kept.number + 1) rest))) last

      -- it was begun
      pub making-began : (e : Device) → RanPart d e (entries_in (line_course m line).came) → RanPart start e (entries_in (course_of new_machine all).came)
      making-began e part = line-stops new_machine m [] kept.said start d all _ kept.left line _ first e part

      -- it was run
      pub making-more : (after : Machine) (told_now : List ℕ) (e : Device) (then : Known) → then ≡ known_after known line → after ≡ (line_course m line).left → told_now ≡ held ++ text_of (said_all (line_course m line).came) → Ran d e (entries_in (line_course m line).came)
          → Making all start old rest then after told_now e now
      making-more after told_now e then knows moved saying ran =
          let words = text_of (said_all (line_course m line).came) in
          subst (λ (k : Known). Making all start old rest k after told_now e now) (sym knows) (record {
            number = kept.number + 1;
            said = kept.said ++ words;
            passed = subst (λ l. Passes (kept.said ++ text_of (said_all (line_course m line).came)) l old now) (sym saying)
                (passes-more kept.said held (text_of (said_all (line_course m line).came)) old now kept.passed);
            left = line-went new_machine m [] kept.said start d all _ kept.left line _ first after (kept.said ++ text_of (said_all (line_course m line).came)) e moved refl ran;
            accepted = OnFalse_at last accepted_line.2;
          })

-- ---- the script of a number

module _ (number : ℕ) where
  pub made-front : (a b : Delivery) → GetsFront (text_of (script_said new_machine (script_made number))) a b → GetsFront (report_made number) a b
  unfolding report_made
  made-front a b front = front

  pub made-ran : (d e : Device) → RanPart d e (entries_in (course_of new_machine (script_made number)).came) → RanPart d e (entries_made number)
  unfolding entries_made
  made-ran d e part = part
