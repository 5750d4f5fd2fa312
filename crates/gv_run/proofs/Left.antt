-- What is left of a course that is run over the shared device.
use Rattle.std.proofs.Common.{◌≡◌, ℕ, List, [], ◌++◌, map, refl, ap, sym, ◌∙◌, subst}
use Rattle.std.proofs.lemmas.List.{append_assoc, append-nil, map-append}
use Rattle.gv_text.specs.Report.{text_of}
use Rattle.gv_text.specs.Script.{Script, onto_script}
use Rattle.gv_text.specs.declared.script_line.Line.{Line}
use Rattle.gv_gpu.specs.Change.{Ran, RanPart}
use Rattle.gv_gpu.specs.Device.{Device, JournalEntry}
use Rattle.gv_private.specs.Turn.{RanCommand}
use Rattle.gv_machine.specs.Course.{Course, onto}
use Rattle.gv_machine.specs.Machine.{Machine, Done, line_course, ran_all}
use Rattle.gv_machine.specs.Report.{said_all, course_of}
use Rattle.gv_machine.proofs.Left.{Left, LeftOf, Played, left-all, left-none, left-whole, goes-on, began, line-done, line-began}
use Rattle.gv_machine.proofs.Text.{said_none}
use Rattle.gv_vgpu.specs.Changes.{journal_entry}
use Rattle.gv_run.specs.Tied.{Plays, entries_in}

-- ---- what ran

-- nothing ran
pub ran-none : (d : Device) → Ran d d []
ran-none d = record { journal = sym (append-nil d.journal); strays = refl }

-- these commands ran, one after another
pub ran-then : {d e f : Device} {xs ys : List JournalEntry} → Ran d e xs → Ran e f ys → Ran d f (xs ++ ys)
ran-then {d} {e} {f} {xs} {ys} first second = record {
  journal = second.journal ∙ ap (λ z. z ++ ys) first.journal ∙ append_assoc d.journal xs ys;
  strays = second.strays ∙ first.strays;
}

-- and then nothing
pub ran-still : {d e f : Device} {xs : List JournalEntry} → Ran d e xs → Ran e f [] → Ran d f xs
ran-still {d} {e} {f} {xs} first second = subst (λ (l : List JournalEntry). Ran d f l) (append-nil xs) (ran-then first second)

-- what ran is all of it, as far as that goes
pub ran-whole : {d e : Device} {xs : List JournalEntry} → Ran d e xs → RanPart d e xs
ran-whole {d} {e} {xs} ran = record { left = []; part = record { done = xs; ran = ran; front = append-nil xs } }

-- nothing ran of what was to run
pub ran-before : {d e : Device} → Ran d e [] → (xs : List JournalEntry) → RanPart d e xs
ran-before {d} {e} none xs = record { left = xs; part = record { done = []; ran = none; front = refl } }

entries-append : (xs ys : List RanCommand) → map journal_entry (xs ++ ys) ≡ map journal_entry xs ++ map journal_entry ys
entries-append xs ys = map-append journal_entry xs ys

-- ---- a course

-- What was done over the shared device and the course c of what is left are the whole course.
pub record Goes (all : Course Machine Done) (before : List ℕ) (start : Device) (c : Course Machine Done) (now : List ℕ) (d : Device) : Type 0 where
  pub ran : List RanCommand
  pub done : Ran start d (map journal_entry ran)
  pub left : Left all before c now ran

pub goes-all : (all : Course Machine Done) (before : List ℕ) (start : Device) → Goes all before start all before start
goes-all all before start = record { ran = []; done = ran-none start; left = left-all all before }

-- where a front of commands ran, by all that ran before
front-of : {start d e : Device} (ran whole some : List RanCommand) (rest : List RanCommand) → Ran start d (map journal_entry ran) → (ran ++ whole) ++ rest ≡ some → RanPart d e (map journal_entry whole) → RanPart start e (map journal_entry some)
front-of {start} {d} {e} ran whole some rest done is part = record {
  left = part.left ++ map journal_entry rest;
  part = record {
    done = map journal_entry ran ++ part.part.done;
    ran = ran-then done part.part.ran;
    front =
        append_assoc (map journal_entry ran) part.part.done (part.left ++ map journal_entry rest)
        ∙ ap (λ (z : List JournalEntry). map journal_entry ran ++ z) (sym (append_assoc part.part.done part.left (map journal_entry rest)) ∙ ap (λ (z : List JournalEntry). z ++ map journal_entry rest) part.part.front)
        ∙ sym (append_assoc (map journal_entry ran) (map journal_entry whole) (map journal_entry rest))
        ∙ ap (λ (z : List JournalEntry). z ++ map journal_entry rest) (sym (entries-append ran whole))
        ∙ sym (entries-append (ran ++ whole) rest)
        ∙ ap (λ (z : List RanCommand). map journal_entry z) is;
  };
}

module _ (all : Course Machine Done) (before : List ℕ) (start : Device) where
  module _ (first rest : Course Machine Done) (now : List ℕ) (d : Device) (kept : Goes all before start (onto first rest) now d) where
    -- the first of what is left was done
    pub went-on : (later : List ℕ) (e : Device) → later ≡ now ++ text_of (said_all first.came) → Ran d e (entries_in first.came) → Goes all before start rest later e
    went-on later e told more = record {
      ran = kept.ran ++ ran_all first.came;
      done = subst (λ (l : List JournalEntry). Ran start e l) (sym (entries-append kept.ran (ran_all first.came))) (ran-then kept.done more);
      left = goes-on all before first rest now kept.ran kept.left later told;
    }

    -- the first of what is left began
    pub stops-within : (e : Device) → RanPart d e (entries_in first.came) → RanPart start e (entries_in all.came)
    stops-within e part =
        front-of kept.ran (ran_all first.came) (ran_all all.came) (ran_all rest.came) kept.done (whole-began (ran_all first.came) [] (append-nil (ran_all first.came))) part
      where
        whole-began : (some more : List RanCommand) → some ++ more ≡ ran_all first.came → (kept.ran ++ some) ++ (more ++ ran_all rest.came) ≡ ran_all all.came
        whole-began some more front = began all before first rest now kept.ran kept.left some more front

  -- what ran is a front of all
  pub goes-part : (c : Course Machine Done) (now : List ℕ) (d : Device) → Goes all before start c now d → RanPart start d (entries_in all.came)
  goes-part c now d kept = record {
    left = map journal_entry (ran_all c.came);
    part = record {
      done = map journal_entry kept.ran;
      ran = kept.done;
      front = sym (entries-append kept.ran (ran_all c.came)) ∙ ap (λ (z : List RanCommand). map journal_entry z) kept.left.journal;
    };
  }

  -- the device goes on, and nothing runs
  pub goes-still : (c : Course Machine Done) (now : List ℕ) (d e : Device) → Goes all before start c now d → Ran d e [] → Goes all before start c now e
  goes-still c now d e kept none = record { ran = kept.ran; done = ran-still kept.done none; left = kept.left }

  -- nothing is left
  pub goes-over : (c : Course Machine Done) (m : Machine) (now : List ℕ) (d : Device) → Goes all before start c now d → c ≡ record { left = m; came = [] } → Plays all start before d m now
  goes-over c m now d kept is =
      let whole : Played all before m now kept.ran = left-none all before c m now kept.ran kept.left is in
      record {
        machine = whole.machine;
        report = whole.report;
        ran = subst (λ (l : List RanCommand). Ran start d (map journal_entry l)) whole.journal kept.done;
      }

-- ---- the whole script

-- what is left of a script is its ending too
pub record GoesOf (m0 : Machine) (before : List ℕ) (start : Device) (all : Script) (m : Machine) (now : List ℕ) (d : Device) (rest : Script) : Type 0 where
  pub ran : List RanCommand
  pub done : Ran start d (map journal_entry ran)
  pub left : LeftOf m0 before all m now ran rest

pub goes-whole : (m0 : Machine) (before : List ℕ) (start : Device) (all : Script) → GoesOf m0 before start all m0 before start all
goes-whole m0 before start all = record { ran = []; done = ran-none start; left = left-whole m0 before all }

module _ (m0 m : Machine) (before now : List ℕ) (start d : Device) (all left : Script) (kept : GoesOf m0 before start all m now d left) where
  pub script-goes : Goes (course_of m0 all) before start (course_of m left) now d
  script-goes = record { ran = kept.ran; done = kept.done; left = kept.left.course }

  -- the device goes on, and nothing runs
  pub script-still : (e : Device) → Ran d e [] → GoesOf m0 before start all m now e left
  script-still e none = record { ran = kept.ran; done = ran-still kept.done none; left = kept.left }

  module _ (line : Line) (rest : Script) (is : left ≡ onto_script line rest) where
    pub line-went : (next : Machine) (later : List ℕ) (e : Device) → next ≡ (line_course m line).left → later ≡ now ++ text_of (said_all (line_course m line).came) → Ran d e (entries_in (line_course m line).came) → GoesOf m0 before start all next later e rest
    line-went next later e moved told more = record {
      ran = kept.ran ++ ran_all (line_course m line).came;
      done = subst (λ (l : List JournalEntry). Ran start e l) (sym (entries-append kept.ran (ran_all (line_course m line).came))) (ran-then kept.done more);
      left = line-done m0 m before now kept.ran all left kept.left line rest is next later moved told;
    }

    pub line-stops : (e : Device) → RanPart d e (entries_in (line_course m line).came) → RanPart start e (entries_in (course_of m0 all).came)
    line-stops e part =
        front-of kept.ran (ran_all (line_course m line).came) (ran_all (course_of m0 all).came) (ran_all (course_of (line_course m line).left rest).came) kept.done
        (line-began m0 m before now kept.ran all left kept.left line rest is (ran_all (line_course m line).came) [] (append-nil (ran_all (line_course m line).came))) part

-- nothing is to be done
pub plays-none : (d e : Device) (m k : Machine) (told now : List ℕ) → k ≡ m → now ≡ told → Ran d e [] → Plays (record { left = m; came = [] }) d told e k now
plays-none d e m k told now is same none = record { machine = is; report = same ∙ said_none told; ran = none }
