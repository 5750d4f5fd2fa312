-- What is left of a script, line by line: what was done and the course of what is left are the whole course.
use Rattle.std.proofs.Common.{◌≡◌, ℕ, Bool, true, false, List, [], ◌++◌, Option, None, Some, cond, refl, ap, sym, ◌∙◌, subst}
use Rattle.std.proofs.lemmas.List.{append_assoc, append-nil}
use Rattle.std.proofs.lemmas.Grind.{flat_map-append}
use Rattle.gv_text.specs.Report.{text_of}
use Rattle.gv_text.specs.Script.{Script, script_from, script_on, ends, onto_script, lines_of, counts_last, accepted, known_after, is_end}
use Rattle.gv_text.specs.declared.ending.Ending.TheVariants.{Done as done, BadScript}
use Rattle.gv_text.specs.declared.known.Known.{Known}
use Rattle.gv_text.specs.declared.script_line.Line.{Line}
use Rattle.gv_private.specs.Turn.{RanCommand}
use Rattle.gv_machine.specs.Course.{Course, onto}
use Rattle.gv_machine.specs.Machine.{Machine, Done, line_course, ran_in, ran_all}
use Rattle.gv_machine.specs.Report.{said_of, said_all, course_of}
use Rattle.gv_machine.proofs.Text.{said_more, said_none}

-- ---- what the next line makes of a script

-- the script from line number n on
abbrev pub left_of : Bool → Known → ℕ → List ℕ → Script
left_of whole known n rest = script_from whole known n (lines_of (counts_last whole) rest)

module _ (known : Known) (n : ℕ) (bytes : List ℕ) (rest : Known → Script) (script : Script) (is : script ≡ script_on known n (accepted known bytes) rest) where
  on_line : (o : Option Line) → accepted known bytes ≡ o → script ≡ script_on known n o rest
  on_line o found = is ∙ ap (λ o. script_on known n o rest) found

  pub left-refused : accepted known bytes ≡ None → script ≡ ends (BadScript n)
  left-refused found = on_line None found

  by_end : (line : Line) (b : Bool) → accepted known bytes ≡ Some line → is_end line ≡ b → script ≡ cond b (ends done) (onto_script line (rest (known_after known line)))
  by_end line b found last = on_line (Some line) found ∙ ap (λ b. cond b (ends done) (onto_script line (rest (known_after known line)))) last

  pub left-ended : (line : Line) → accepted known bytes ≡ Some line → is_end line ≡ true → script ≡ ends done
  left-ended line found last = by_end line true found last

  pub left-line : (line : Line) → accepted known bytes ≡ Some line → is_end line ≡ false → script ≡ onto_script line (rest (known_after known line))
  left-line line found last = by_end line false found last

-- ---- a course

-- What was done and the course c of what is left are the whole course. Its report stands behind the text `before`;
-- so far the text is `now`, and these commands ran.
pub record Left (all : Course Machine Done) (before : List ℕ) (c : Course Machine Done) (now : List ℕ) (ran : List RanCommand) : Type 0 where
  pub machine : c.left ≡ all.left
  pub report : now ++ text_of (said_all c.came) ≡ before ++ text_of (said_all all.came)
  pub journal : ran ++ ran_all c.came ≡ ran_all all.came

-- nothing was done yet
pub left-all : (all : Course Machine Done) (before : List ℕ) → Left all before all before []
left-all all before = record { machine = refl; report = refl; journal = refl }

-- a whole course was run: the machine that is left, the text now, and the commands that ran
pub record Played (all : Course Machine Done) (before : List ℕ) (m : Machine) (now : List ℕ) (ran : List RanCommand) : Type 0 where
  pub machine : m ≡ all.left
  pub report : now ≡ before ++ text_of (said_all all.came)
  pub journal : ran ≡ ran_all all.came

module _ (all : Course Machine Done) (before : List ℕ) where
  module _ (first rest : Course Machine Done) (now : List ℕ) (ran : List RanCommand) (kept : Left all before (onto first rest) now ran) where
    ran_split : ran_all (first.came ++ rest.came) ≡ ran_all first.came ++ ran_all rest.came
    ran_split = flat_map-append ran_in first.came rest.came

    -- the first of what is left was done
    pub goes-on : (later : List ℕ) → later ≡ now ++ text_of (said_all first.came) → Left all before rest later (ran ++ ran_all first.came)
    goes-on later told = record {
      machine = kept.machine;
      report = said_more now later (said_all first.came) (said_all rest.came) told
          ∙ ap (λ z. now ++ text_of z) (sym (flat_map-append said_of first.came rest.came)) ∙ kept.report;
      journal = append_assoc ran (ran_all first.came) (ran_all rest.came) ∙ ap (λ z. ran ++ z) (sym ran_split) ∙ kept.journal;
    }

    -- The first of what is left began: where a front of its commands ran, a front of all ran.
    pub began : (some more : List RanCommand) → some ++ more ≡ ran_all first.came → (ran ++ some) ++ (more ++ ran_all rest.came) ≡ ran_all all.came
    began some more front =
        append_assoc ran some (more ++ ran_all rest.came)
        ∙ ap (λ z. ran ++ z) (sym (append_assoc some more (ran_all rest.came)) ∙ ap (λ z. z ++ ran_all rest.came) front ∙ sym ran_split)
        ∙ kept.journal

  -- nothing is left
  pub left-none : (c : Course Machine Done) (m : Machine) (now : List ℕ) (ran : List RanCommand) → Left all before c now ran → c ≡ record { left = m; came = [] } → Played all before m now ran
  left-none c m now ran kept is = record {
    machine = sym (ap (λ (c : Course Machine Done). c.left) is) ∙ kept.machine;
    report = said_none now ∙ sym (ap (λ (c : Course Machine Done). now ++ text_of (said_all c.came)) is) ∙ kept.report;
    journal = sym (append-nil ran) ∙ sym (ap (λ (c : Course Machine Done). ran ++ ran_all c.came) is) ∙ kept.journal;
  }

-- nothing is to be done
pub played-none : (m : Machine) (now : List ℕ) → Played (record { left = m; came = [] }) now m now []
played-none m now = record { machine = refl; report = said_none now; journal = refl }

-- ---- the whole script

-- what is left of a script is its ending too
pub record LeftOf (start : Machine) (before : List ℕ) (all : Script) (m : Machine) (now : List ℕ) (ran : List RanCommand) (left : Script) : Type 0 where
  pub ending : left.ending ≡ all.ending
  pub course : Left (course_of start all) before (course_of m left) now ran

pub left-whole : (start : Machine) (before : List ℕ) (all : Script) → LeftOf start before all start before [] all
left-whole start before all = record { ending = refl; course = left-all (course_of start all) before }

module _ (start m : Machine) (before now : List ℕ) (ran : List RanCommand) (all left : Script) (kept : LeftOf start before all m now ran left) where
  module _ (line : Line) (rest : Script) (is : left ≡ onto_script line rest) where
    first_left : Left (course_of start all) before (onto (line_course m line) (course_of (line_course m line).left rest)) now ran
    first_left = subst (λ (c : Course Machine Done). Left (course_of start all) before c now ran) (ap (course_of m) is) kept.course

    pub line-done : (next : Machine) (later : List ℕ) → next ≡ (line_course m line).left → later ≡ now ++ text_of (said_all (line_course m line).came) → LeftOf start before all next later (ran ++ ran_all (line_course m line).came) rest
    line-done next later moved told = record {
      ending = sym (ap (λ (s : Script). s.ending) is) ∙ kept.ending;
      course = subst (λ (k : Machine). Left (course_of start all) before (course_of k rest) later (ran ++ ran_all (line_course m line).came)) (sym moved)
          (goes-on (course_of start all) before (line_course m line) (course_of (line_course m line).left rest) now ran first_left later told);
    }

    pub line-began : (some more : List RanCommand) → some ++ more ≡ ran_all (line_course m line).came → (ran ++ some) ++ (more ++ ran_all (course_of (line_course m line).left rest).came) ≡ ran_all (course_of start all).came
    line-began some more front = began (course_of start all) before (line_course m line) (course_of (line_course m line).left rest) now ran first_left some more front
