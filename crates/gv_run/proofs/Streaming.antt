-- A script that is run while it is read: what was handed out and said so far, and what is left.
use Rattle.std.proofs.Common.{◌≡◌, ℕ, ◌+◌, ◌-◌, ◌<◌, ◌≤◌, true, false, List, [], ◌∷◌, ◌++◌, Option, None, Some, IfSome, length, map, refl, ap, sym, ◌∙◌, arith, subst, append_assoc, append-nil, length-append}
use Rattle.std.specs.Io.KnownBytes.{Appends, Consumes}
use Rattle.std.proofs.KnownBytes.{Consumes-nil}
use Rattle.gv_outside.proofs.Pieces.{Consumes-front}
use Rattle.gv_text.specs.Report.{text_of}
use Rattle.gv_text.specs.Script.{Script, script_of, script_in, script_limit, script_from, script_on, ends, onto_script, nothing_known, is_too_long, lines_of, accepted, known_after, is_end}
use Rattle.gv_text.specs.declared.ending.Ending.{Ending}
use Rattle.gv_text.specs.declared.ending.Ending.TheVariants.{Done, BadScript, TooLong}
use Rattle.gv_text.specs.declared.known.Known.{Known}
use Rattle.gv_text.specs.declared.script_line.Line.{Line}
use Rattle.gv_gpu.specs.Change.{Ran, RanPart}
use Rattle.gv_gpu.specs.Device.{Device}
use Rattle.gv_lines.specs.Reader.{ReaderState, HandsOut, Relates, TellsNext, coming, new_reader, has_line_feed}
use Rattle.gv_lines.specs.Outlet.{in_sink}
use Rattle.gv_lines.specs.Writer.{PassesOn}
use Rattle.gv_lines.specs.declared.next.Next.{Next}
use Rattle.gv_lines.specs.declared.next.Next.TheVariants as nexts
use Rattle.gv_lines.proofs.Passing.{PassesOn-none, PassesOn-more, PassesOn-trans}
use Rattle.gv_lines.proofs.Handing.{HandsOut-trans}
use Rattle.gv_private.specs.Turn.{RanCommand}
use Rattle.gv_machine.specs.Machine.{Machine, new_machine, line_course, ran_all}
use Rattle.gv_machine.specs.Report.{said_all, course_of, ending_said, report_of, commands_in}
use Rattle.gv_machine.proofs.Left.{left_of, left-refused, left-ended, left-line}
use Rattle.gv_machine.proofs.Scripts.{report_of-script, commands_in-script}
use Rattle.gv_machine.proofs.Text.{said_none}
use Rattle.gv_vgpu.specs.Changes.{journal_entry}
use Rattle.gv_run.specs.Headline.{TakesAtMost}
use Rattle.gv_run.specs.Streamed.{WritesFront, StopsAtFault, Begun, RunsLines, ending_at, is_last, report_so_far, ending_so_far}
use Rattle.gv_run.specs.Tied.{entries_in, machine_in}
use Rattle.gv_run.specs.declared.stage.Stage.{Stage}
use Rattle.gv_run.proofs.Ahead.{script_ahead, all_ahead, relates-some, ahead-ends, ahead-line, ahead-nothing, lines_of-line}
use Rattle.gv_run.proofs.Left.{GoesOf, goes-whole, goes-part, script-goes, script-still, line-went, line-stops}
use Rattle.gv_run.proofs.Saying.{passes-all}
use Rattle.gv_run.proofs.WholeScript.{said-front, same-ending, said-all, runs-lines, script-front}

-- Of a source's bytes these were handed out, as whole lines, and run: what they said is held or written, and
-- the script that is left is that of what is still to come. For the bytes alone, whatever came behind them,
-- the same holds.
pub record SoFar (bytes gone : List ℕ) (start : Device) (old : Option (List ℕ)) (reader : ReaderState) (source : Option (List ℕ)) (known : Known) (n : ℕ) (m : Machine) (held : List ℕ) (d : Device) (now : Option (List ℕ)) : Type 0 where
  pub rest : List ℕ
  pub there : source ≡ Some rest
  pub said : List ℕ
  pub passed : PassesOn said held old now
  pub left : GoesOf new_machine [] start (script_of bytes) m said d (script_ahead known n (coming reader rest))
  pub going : (more : List ℕ) → GoesOf new_machine [] start (script_in false (gone ++ more)) m said d (left_of false known n more)

-- The same for a source that tells its bytes, and how many of them were taken for any.
pub record Reading (start : Device) (old first : Option (List ℕ)) (reader : ReaderState) (source : Option (List ℕ)) (known : Known) (n : ℕ) (m : Machine) (held : List ℕ) (d : Device) (now : Option (List ℕ)) : Type 0 where
  pub gone : List ℕ
  pub hands : HandsOut (new_reader script_limit) reader first source gone
  pub so_far : IfSome first (λ bytes. SoFar bytes gone start old reader source known n m held d now)

-- a fact of the bytes that a source tells, from another
pub if_some : {P Q : List ℕ → Type 0} (o : Option (List ℕ)) → ((x : List ℕ) → o ≡ Some x → P x → Q x) → IfSome o P → IfSome o Q
if_some None f h = tt
if_some (Some x) f h = f x refl h

-- a front of a report, from a front of what its lines said
report-front : (bytes : List ℕ) (a b : Option (List ℕ)) → WritesFront (text_of (said_all (course_of new_machine (script_of bytes)).came)) a b → WritesFront (report_of bytes) a b
report-front bytes a b front =
    subst (λ l. WritesFront l a b) (sym (report_of-script bytes (script_of bytes) refl)) (script-front (script_of bytes) (in_sink a) (in_sink b) front)

part-of : (bytes : List ℕ) (start d : Device) → RanPart start d (entries_in (course_of new_machine (script_of bytes)).came) → RanPart start d (map journal_entry (commands_in bytes))
part-of bytes start d part = subst (λ (ran : List RanCommand). RanPart start d (map journal_entry ran)) (sym (commands_in-script bytes (script_of bytes) refl)) part

-- ---- where reading has come

module _ {bytes gone : List ℕ} {start : Device} {old : Option (List ℕ)} {s : ReaderState} {source : Option (List ℕ)} {known : Known} {n : ℕ} {m : Machine} {held : List ℕ} {d : Device} {now : Option (List ℕ)} (kept : SoFar bytes gone start old s source known n m held d now) where
  pub begun : Begun bytes start d old now
  begun = record {
    written = report-front bytes old now (said-front start (script_of bytes) m kept.said d _ kept.left held (in_sink old) (in_sink now) kept.passed);
    ran = part-of bytes start d (goes-part (course_of new_machine (script_of bytes)) [] start _ kept.said d (script-goes new_machine m [] kept.said start d (script_of bytes) _ kept.left));
  }

  -- the device goes on, and nothing runs
  pub so_far-still : (e : Device) → Ran d e [] → SoFar bytes gone start old s source known n m held e now
  so_far-still e none = record {
    rest = kept.rest;
    there = kept.there;
    said = kept.said;
    passed = kept.passed;
    left = script-still new_machine m [] kept.said start d (script_of bytes) _ kept.left e none;
    going = λ more. script-still new_machine m [] kept.said start d (script_in false (gone ++ more)) _ (kept.going more) e none;
  }

  -- more of what is held is written
  pub passed-on : (later : List ℕ) (b : Option (List ℕ)) → PassesOn held later now b → SoFar bytes gone start old s source known n m later d b
  passed-on later b passes = record {
    rest = kept.rest;
    there = kept.there;
    said = kept.said;
    passed = PassesOn-trans kept.said held later old now b kept.passed passes;
    left = kept.left;
    going = kept.going;
  }

  -- what comes next
  module _ (t : ReaderState) (later : Option (List ℕ)) (next : Next) (tells : Relates (λ before after. TellsNext next before t.line after) s source t later) where
    told : (y : List ℕ) × (later ≡ Some y) × TellsNext next (coming s kept.rest) t.line (coming t y)
    told = relates-some (λ before after. TellsNext next before t.line after) s t source later kept.rest kept.there tells

    -- no line: the script ends
    pub so_far-ends : (ending : Ending) → ending_at next n ≡ Some ending → (stage : Stage) → m ≡ machine_in d stage → RunsLines (script_of bytes) ending start d stage held (in_sink old) (in_sink now)
    so_far-ends ending is stage own = runs-lines start (script_of bytes) m kept.said d _ kept.left held (in_sink old) (in_sink now) kept.passed ending
        (ahead-ends known n t.line next (coming s kept.rest) (coming t told.0) ending is told.2) stage own

    module _ (going : ending_at next n ≡ None) where
      ahead : script_ahead known n (coming s kept.rest) ≡ script_on known n (accepted known t.line) (λ known. script_ahead known (n + 1) (coming t told.0))
      ahead = ahead-line known n t.line next (coming s kept.rest) (coming t told.0) going told.2

      pub so_far-refused : accepted known t.line ≡ None → (stage : Stage) → m ≡ machine_in d stage → RunsLines (script_of bytes) (BadScript n) start d stage held (in_sink old) (in_sink now)
      so_far-refused is stage own = runs-lines start (script_of bytes) m kept.said d _ kept.left held (in_sink old) (in_sink now) kept.passed (BadScript n)
          (left-refused known n t.line (λ known. script_ahead known (n + 1) (coming t told.0)) _ ahead is) stage own

      module _ (line : Line) (is : accepted known t.line ≡ Some line) where
        pub so_far-ended : is_end line ≡ true → (stage : Stage) → m ≡ machine_in d stage → RunsLines (script_of bytes) Done start d stage held (in_sink old) (in_sink now)
        so_far-ended last stage own = runs-lines start (script_of bytes) m kept.said d _ kept.left held (in_sink old) (in_sink now) kept.passed Done
            (left-ended known n t.line (λ known. script_ahead known (n + 1) (coming t told.0)) _ ahead line is last) stage own

        module _ (last : is_end line ≡ false) where
          line_first : script_ahead known n (coming s kept.rest) ≡ onto_script line (script_ahead (known_after known line) (n + 1) (coming t told.0))
          line_first = left-line known n t.line (λ known. script_ahead known (n + 1) (coming t told.0)) _ ahead line is last

          -- the line was begun
          pub so_far-began : (e : Device) → RanPart d e (entries_in (line_course m line).came) → Begun bytes start e old now
          so_far-began e part = record {
            written = report-front bytes old now (said-front start (script_of bytes) m kept.said d _ kept.left held (in_sink old) (in_sink now) kept.passed);
            ran = part-of bytes start e (line-stops new_machine m [] kept.said start d (script_of bytes) _ kept.left line _ line_first e part);
          }

          -- the line was run
          module _ (after : Machine) (told_now : List ℕ) (e : Device) (moved : after ≡ (line_course m line).left) (saying : told_now ≡ held ++ text_of (said_all (line_course m line).came)) (ran : Ran d e (entries_in (line_course m line).came)) where
            abbrev words : List ℕ
            words = text_of (said_all (line_course m line).came)

            more_said : PassesOn (kept.said ++ words) told_now old now
            more_said = subst (λ l. PassesOn (kept.said ++ text_of (said_all (line_course m line).came)) l old now) (sym saying)
                (PassesOn-more kept.said held (text_of (said_all (line_course m line).came)) old now kept.passed)

            left_after : GoesOf new_machine [] start (script_of bytes) after (kept.said ++ words) e (script_ahead (known_after known line) (n + 1) (coming t told.0))
            left_after = line-went new_machine m [] kept.said start d (script_of bytes) _ kept.left line _ line_first after (kept.said ++ text_of (said_all (line_course m line).came)) e moved refl ran

            -- behind the last line, which has no line feed, nothing comes
            pub so_far-last : next ≡ nexts.LastLine → (later_held : List ℕ) (b : Option (List ℕ)) → PassesOn told_now later_held now b → (stage : Stage) → after ≡ machine_in e stage → RunsLines (script_of bytes) (BadScript (n + 1)) start e stage later_held (in_sink old) (in_sink b)
            so_far-last is_last later_held b passes stage own =
                let end = subst (λ x. TellsNext x (coming s kept.rest) t.line (coming t told.0)) is_last told.2 in
                runs-lines start (script_of bytes) after (kept.said ++ words) e _ left_after later_held (in_sink old) (in_sink b)
                (PassesOn-trans (kept.said ++ words) told_now later_held old now b more_said passes) (BadScript (n + 1))
                (ahead-nothing (known_after known line) (n + 1) t.line (coming s kept.rest) (coming t told.0) end) stage own

            pub so_far-began_last : (later_held : List ℕ) (b : Option (List ℕ)) → PassesOn told_now later_held now b → Begun bytes start e old b
            so_far-began_last later_held b passes = record {
              written = report-front bytes old b (said-front start (script_of bytes) after (kept.said ++ words) e _ left_after later_held (in_sink old) (in_sink b) (PassesOn-trans (kept.said ++ words) told_now later_held old now b more_said passes));
              ran = part-of bytes start e (goes-part (course_of new_machine (script_of bytes)) [] start _ (kept.said ++ words) e (script-goes new_machine after [] (kept.said ++ words) start e (script_of bytes) _ left_after));
            }

            -- one more line was handed out
            pub so_far-more : has_line_feed t.line ≡ false → SoFar bytes (gone ++ (t.line ++ 10 ∷ [])) start old t later (known_after known line) (n + 1) after told_now e now
            so_far-more plain = record {
              rest = told.0;
              there = told.1;
              said = kept.said ++ words;
              passed = more_said;
              left = left_after;
              going = λ more. going_after more;
            }
              where
                going_after : (more : List ℕ) → GoesOf new_machine [] start (script_in false ((gone ++ (t.line ++ 10 ∷ [])) ++ more)) after (kept.said ++ words) e (left_of false (known_after known line) (n + 1) more)
                going_after more =
                    let whole : gone ++ (t.line ++ 10 ∷ more) ≡ (gone ++ (t.line ++ 10 ∷ [])) ++ more =
                    sym (append_assoc gone (t.line ++ 10 ∷ []) more ∙ ap (λ l. gone ++ l) (append_assoc t.line (10 ∷ []) more)) in
                    let on : left_of false known n (t.line ++ 10 ∷ more) ≡ script_on known n (accepted known t.line) (λ known. left_of false known (n + 1) more) = ap (script_from false known n) (lines_of-line is_too_long t.line more plain) in
                    let first = left-line known n t.line (λ known. left_of false known (n + 1) more) _ on line is last in
                    subst (λ l. GoesOf new_machine [] start (script_in false l) after (kept.said ++ text_of (said_all (line_course m line).came)) e (left_of false (known_after known line) (n + 1) more)) whole
                    (line-went new_machine m [] kept.said start d (script_in false (gone ++ (t.line ++ 10 ∷ more))) _ (kept.going (t.line ++ 10 ∷ more)) line _ first after (kept.said ++ text_of (said_all (line_course m line).came)) e moved refl ran)

  -- The source fails where no line is held: the script of the bytes that were taken goes on, and all that
  -- its lines say was said.
  module _ (t : ReaderState) (none : lines_of is_too_long t.held ≡ []) where
    open_script : left_of false known n t.held ≡ ends TooLong
    open_script = ap (script_from false known n) none

    pub so_far-fault : (first later b : Option (List ℕ)) (taken : List ℕ) → Consumes first later taken → taken ≡ gone ++ t.held → (now_held : List ℕ) → now_held ≡ [] → PassesOn held now_held now b → StopsAtFault first later old b
    unfolding report_so_far ending_so_far
    so_far-fault first later b taken consumes is now_held empty passes =
        let all = script_in false (gone ++ t.held) in
        let left = kept.going t.held in
        let written = passes-all kept.said (in_sink old) (in_sink b) (subst (λ l. PassesOn kept.said l old b) empty (PassesOn-trans kept.said held now_held old now b kept.passed passes)) in
        let said = said-all start all m kept.said d _ left held (in_sink old) (in_sink now) kept.passed TooLong open_script in
        record {
          taken = taken;
          source = consumes;
          going = ap (λ l. (script_in false l).ending) is ∙ sym (same-ending start all m kept.said d _ left held (in_sink old) (in_sink now) kept.passed TooLong open_script);
          report = subst (Appends old b) (said ∙ ap (λ l. text_of (said_all (course_of new_machine (script_in false l)).came)) (sym is)) written;
        }

-- ---- a source that tells its bytes, or none

-- before the first line
so_far-start : (bytes : List ℕ) (start : Device) (old : Option (List ℕ)) → SoFar bytes [] start old (new_reader script_limit) (Some bytes) nothing_known 1 new_machine [] start old
so_far-start bytes start old = record {
  rest = bytes;
  there = refl;
  said = [];
  passed = PassesOn-none [] old;
  left = subst (λ (s : Script). GoesOf new_machine [] start (script_of bytes) new_machine [] start s) (all_ahead bytes) (goes-whole new_machine [] start (script_of bytes));
  going = λ more. goes-whole new_machine [] start (script_in false more);
}

hands-none : (s : ReaderState) (a : Option (List ℕ)) → HandsOut s s a a []
hands-none s a = record { piece = []; source = Consumes-nil a; bytes = append-nil s.held; taken = omega arith; limit = refl }

reading-new : (start : Device) (old first : Option (List ℕ)) → Reading start old first (new_reader script_limit) first nothing_known 1 new_machine [] start old
reading-new start old None = record { gone = []; hands = hands-none (new_reader script_limit) None; so_far = tt }
reading-new start old (Some bytes) = record { gone = []; hands = hands-none (new_reader script_limit) (Some bytes); so_far = so_far-start bytes start old }

pub reading-start : (start : Device) (old first : Option (List ℕ)) (s : ReaderState) (known : Known) (m : Machine) (held : List ℕ) → s ≡ new_reader script_limit → known ≡ nothing_known → m ≡ new_machine → held ≡ [] → Reading start old first s first known 1 m held start old
reading-start start old first s known m held new nothing none empty =
    subst (λ (s : ReaderState). Reading start old first s first known 1 m held start old) (sym new)
    (subst (λ (known : Known). Reading start old first (new_reader script_limit) first known 1 m held start old) (sym nothing)
    (subst (λ (m : Machine). Reading start old first (new_reader script_limit) first nothing_known 1 m held start old) (sym none)
    (subst (λ (held : List ℕ). Reading start old first (new_reader script_limit) first nothing_known 1 new_machine held start old) (sym empty)
    (reading-new start old first))))

module _ {start : Device} {old first : Option (List ℕ)} {s : ReaderState} {source : Option (List ℕ)} {known : Known} {n : ℕ} {m : Machine} {held : List ℕ} {d : Device} {now : Option (List ℕ)} (kept : Reading start old first s source known n m held d now) where
  pub reading-begun : IfSome first (λ bytes. Begun bytes start d old now)
  reading-begun = if_some first (λ bytes is so. begun so) kept.so_far

  pub reading-still : (e : Device) → Ran d e [] → Reading start old first s source known n m held e now
  reading-still e none = record { gone = kept.gone; hands = kept.hands; so_far = if_some first (λ bytes is so. so_far-still so e none) kept.so_far }

  -- the same text is held
  pub reading-held : (later : List ℕ) → later ≡ held → Reading start old first s source known n m later d now
  reading-held later is = subst (λ (h : List ℕ). Reading start old first s source known n m h d now) (sym is) kept

  pub reading-passed : (later : List ℕ) (b : Option (List ℕ)) → PassesOn held later now b → Reading start old first s source known n m later d b
  reading-passed later b passes = record { gone = kept.gone; hands = kept.hands; so_far = if_some first (λ bytes is so. passed-on so later b passes) kept.so_far }

  module _ (t : ReaderState) (later : Option (List ℕ)) (given : List ℕ) (hands : HandsOut s t source later given) where
    all_hands : HandsOut (new_reader script_limit) t first later (kept.gone ++ given)
    all_hands = HandsOut-trans (new_reader script_limit) s t first source later kept.gone given kept.hands hands

    -- no byte is taken behind the first one past the limit
    pub reading-taken : t.taken ≤ t.limit + 1 → TakesAtMost (script_limit + 1) first later
    reading-taken bound =
        let all = all_hands in
        Consumes-front first later all.piece (script_limit + 1) all.source (omega (arith, all.taken, all.limit))

  -- the source fails
  pub reading-fault : (t : ReaderState) (later : Option (List ℕ)) → HandsOut s t source later [] → lines_of is_too_long t.held ≡ [] → (now_held : List ℕ) → now_held ≡ [] → (b : Option (List ℕ)) → PassesOn held now_held now b → IfSome first (λ bytes. StopsAtFault first later old b)
  reading-fault t later hands none now_held empty b passes =
      let all = all_hands t later [] hands in
      let is : all.piece ≡ kept.gone ++ t.held = all.bytes ∙ ap (λ l. l ++ t.held) (append-nil kept.gone) in
      if_some first (λ bytes told so. so_far-fault so t none first later b all.piece all.source is now_held empty passes) kept.so_far

  module _ (t : ReaderState) (later : Option (List ℕ)) (next : Next) (tells : Relates (λ before after. TellsNext next before t.line after) s source t later) where
    pub reading-ends : (ending : Ending) → ending_at next n ≡ Some ending → (stage : Stage) → m ≡ machine_in d stage → IfSome first (λ bytes. RunsLines (script_of bytes) ending start d stage held (in_sink old) (in_sink now))
    reading-ends ending is stage own = if_some first (λ bytes told so. so_far-ends so t later next tells ending is stage own) kept.so_far

    module _ (going : ending_at next n ≡ None) where
      pub reading-refused : accepted known t.line ≡ None → (stage : Stage) → m ≡ machine_in d stage → IfSome first (λ bytes. RunsLines (script_of bytes) (BadScript n) start d stage held (in_sink old) (in_sink now))
      reading-refused is stage own = if_some first (λ bytes told so. so_far-refused so t later next tells going is stage own) kept.so_far

      module _ (line : Line) (is : accepted known t.line ≡ Some line) where
        pub reading-ended : is_end line ≡ true → (stage : Stage) → m ≡ machine_in d stage → IfSome first (λ bytes. RunsLines (script_of bytes) Done start d stage held (in_sink old) (in_sink now))
        reading-ended last stage own = if_some first (λ bytes told so. so_far-ended so t later next tells going line is last stage own) kept.so_far

        module _ (last : is_end line ≡ false) where
          pub reading-began : (e : Device) → RanPart d e (entries_in (line_course m line).came) → IfSome first (λ bytes. Begun bytes start e old now)
          reading-began e part = if_some first (λ bytes told so. so_far-began so t later next tells going line is last e part) kept.so_far

          module _ (after : Machine) (told_now : List ℕ) (e : Device) (moved : after ≡ (line_course m line).left) (saying : told_now ≡ held ++ text_of (said_all (line_course m line).came)) (ran : Ran d e (entries_in (line_course m line).came)) where
            pub reading-last : next ≡ nexts.LastLine → (later_held : List ℕ) (b : Option (List ℕ)) → PassesOn told_now later_held now b → (stage : Stage) → after ≡ machine_in e stage → IfSome first (λ bytes. RunsLines (script_of bytes) (BadScript (n + 1)) start e stage later_held (in_sink old) (in_sink b))
            reading-last is_last later_held b passes stage own = if_some first (λ bytes x so. so_far-last so t later next tells going line is last after told_now e moved saying ran is_last later_held b passes stage own) kept.so_far

            pub reading-began_last : (later_held : List ℕ) (b : Option (List ℕ)) → PassesOn told_now later_held now b → IfSome first (λ bytes. Begun bytes start e old b)
            reading-began_last later_held b passes = if_some first (λ bytes x so. so_far-began_last so t later next tells going line is last after told_now e moved saying ran later_held b passes) kept.so_far

            pub reading-more : has_line_feed t.line ≡ false → HandsOut s t source later (t.line ++ 10 ∷ []) → Reading start old first t later (known_after known line) (n + 1) after told_now e now
            reading-more plain hands = record {
              gone = kept.gone ++ (t.line ++ 10 ∷ []);
              hands = all_hands t later (t.line ++ 10 ∷ []) hands;
              so_far = if_some first (λ bytes x so. so_far-more so t later next tells going line is last after told_now e moved saying ran plain) kept.so_far;
            }

-- ---- lines that are handed out with their line feed

pub is_last-true : (next : Next) → is_last next ≡ true → next ≡ nexts.LastLine
is_last-true nexts.Line is = cc
is_last-true nexts.LastLine is = refl
is_last-true nexts.LongLine is = cc
is_last-true nexts.End is = cc
is_last-true nexts.PastLimit is = cc

pub is_line : (next : Next) (n : ℕ) → ending_at next n ≡ None → is_last next ≡ false → next ≡ nexts.Line
is_line nexts.Line n going is = refl
is_line nexts.LastLine n going is = cc
is_line nexts.LongLine n going is = cc
is_line nexts.End n going is = cc
is_line nexts.PastLimit n going is = cc

module _ (s t : ReaderState) (source later : Option (List ℕ)) (line : List ℕ) (hands : HandsOut s t source later (line ++ 10 ∷ [])) where
  given-length : length s.held + length hands.piece ≡ length line + 1 + length t.held
  given-length = sym (length-append s.held hands.piece) ∙ ap length hands.bytes ∙ length-append (line ++ 10 ∷ []) t.held ∙ ap (λ k. k + length t.held) (length-append line (10 ∷ []))

  pub fewer-left : t.taken ≤ t.limit + 1 → t.limit + 1 + length t.held - t.taken < s.limit + 1 + length s.held - s.taken
  fewer-left bound = let long = given-length in omega (arith, hands.taken, hands.limit)

  pub number-more : (n : ℕ) → n + length s.held ≤ s.taken + 1 → n + 1 + length t.held ≤ t.taken + 1
  number-more n numbered = let long = given-length in omega (arith, hands.taken)
