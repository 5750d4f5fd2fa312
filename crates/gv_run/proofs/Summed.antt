-- The summary of the report of a number's script: what was written of it.
use Rattle.std.proofs.Common.{◌≡◌, ℕ, List, [], ◌∷◌, ◌++◌, Option, refl, ap, sym, ◌∙◌, subst}
use Rattle.std.specs.Io.KnownBytes.{Appends}
use Rattle.gv_text.specs.Report.{text_of}
use Rattle.gv_text.specs.declared.report_line.ReportLine.{ReportLine}
use Rattle.gv_text.specs.declared.ending.Ending.TheVariants.{Done}
use Rattle.gv_gen.specs.Made.{script_made}
use Rattle.gv_gpu.specs.Change.{Ran, RanPart}
use Rattle.gv_gpu.specs.Device.{Device}
use Rattle.gv_lines.specs.Outlet.{Delivery, Gets, GetsFront, got, in_sink, in_totals, totals_in}
use Rattle.gv_lines.specs.Summary.{no_totals, totals_after, summary_lines}
use Rattle.gv_lines.specs.Writer.{PassesOn}
use Rattle.gv_lines.specs.declared.outlet.Outlet.{Outlet}
use Rattle.gv_lines.specs.declared.outlet.Outlet.TheVariants as outlets
use Rattle.gv_lines.specs.declared.totals.Totals.{Totals}
use Rattle.gv_machine.specs.Machine.{Machine, new_machine}
use Rattle.gv_machine.proofs.Text.{said_twice}
use Rattle.gv_machine.specs.Report.{ending_said, script_said}
use Rattle.gv_mediator.specs.Laws.{HasMemories}
use Rattle.gv_run.specs.Made.{MadePart, MadeWhole, report_made, summary_made, entries_made, machine_made}
use Rattle.gv_run.specs.Streamed.{RunsLines, WritesFront}
use Rattle.gv_run.specs.Tied.{machine_in}
use Rattle.gv_run.specs.declared.stage.Stage.{Stage}
use Rattle.gv_run.proofs.Finishing.{finish-front, finish-gets}
use Rattle.gv_run.proofs.Left.{ran-none, ran-whole, ran-before}
use Rattle.gv_run.proofs.Making.{made-ran}
use Rattle.gv_run.proofs.Saying.{front-none, passes-part, passes-all}

-- ---- totals leave the sink alone

alone-front : (text : List ℕ) (t : Totals) (outlet : Outlet) (a b : Option (List ℕ)) → GetsFront text (in_totals t a) (got outlet b) → b ≡ a
alone-front text t outlets.Sink a b front = absurd front.1
alone-front text t (outlets.Totals totals) a b front = front.1.1

alone-got : (text : List ℕ) (t : Totals) (outlet : Outlet) (a b : Option (List ℕ)) → Gets (in_totals t a) (got outlet b) text → b ≡ a
alone-got text t outlets.Sink a b gets = absurd gets
alone-got text t (outlets.Totals totals) a b gets = gets.1

totals-got : (text : List ℕ) (t : Totals) (outlet : Outlet) (a b : Option (List ℕ)) → Gets (in_totals t a) (got outlet b) text → totals_in outlet ≡ totals_after t text
totals-got text t outlets.Sink a b gets = absurd gets
totals-got text t (outlets.Totals totals) a b gets = gets.0

module _ (number : ℕ) {start d : Device} where
  -- nothing was written yet
  pub made-untouched : (a b : Option (List ℕ)) → b ≡ a → RanPart start d (entries_made number) → MadePart number start d a b
  made-untouched a b is ran = record {
    written = subst (λ (x : Option (List ℕ)). WritesFront (summary_made number) a x) (sym is) (front-none (summary_made number) (in_sink a));
    ran = ran;
  }

  -- the lines were begun
  pub made-begun : (outlet : Outlet) (a b : Option (List ℕ)) → GetsFront (report_made number) (in_totals no_totals a) (got outlet b) → RanPart start d (entries_made number) → MadePart number start d a b
  made-begun outlet a b front ran = made-untouched a b (alone-front (report_made number) no_totals outlet a b front) ran

  -- the lines were run
  module _ {stage : Stage} {held : List ℕ} {middle : Delivery} (a : Option (List ℕ)) (lines : RunsLines (script_made number) Done start d stage held (in_totals no_totals a) middle) where
    all_ran : RanPart start d (entries_made number)
    all_ran = made-ran number start d (ran-whole lines.ran)

    pub made-lines : (outlet : Outlet) (b : Option (List ℕ)) → GetsFront (held ++ text_of (ending_said Done (machine_in d stage))) middle (got outlet b) → MadePart number start d a b
    made-lines outlet b front =
        made-untouched a b (alone-front (text_of (script_said new_machine (script_made number))) no_totals outlet a b (finish-front (script_made number) lines (got outlet b) front)) all_ran

    -- the report was told
    module _ (outlet : Outlet) (b : Option (List ℕ)) (gets : Gets middle (got outlet b) (held ++ text_of (ending_said Done (machine_in d stage)))) where
      all_got : Gets (in_totals no_totals a) (got outlet b) (text_of (script_said new_machine (script_made number)))
      all_got = finish-gets (script_made number) lines (got outlet b) gets

      untouched : b ≡ a
      untouched = alone-got (text_of (script_said new_machine (script_made number))) no_totals outlet a b all_got

      pub made-told : MadePart number start d a b
      made-told = made-untouched a b untouched all_ran

      -- and then its summary
      module _ (empty report : List ℕ) (totals : Totals) (none : empty ≡ []) (is : totals ≡ totals_in outlet) (told : report ≡ empty ++ text_of (summary_lines totals)) where
        summary : report ≡ summary_made number
        unfolding summary_made report_made
        summary =
            told ∙ ap (λ (l : List ℕ). l ++ text_of (summary_lines totals)) none
            ∙ ap (λ (t : Totals). text_of (summary_lines t)) (is ∙ totals-got (text_of (script_said new_machine (script_made number))) no_totals outlet a b all_got)

        pub made-cut : (left : List ℕ) (c : Option (List ℕ)) → PassesOn report left b c → MadePart number start d a c
        made-cut left c passes = record {
          written = subst (λ (text : List ℕ). WritesFront text a c) summary
              (subst (λ (x : Option (List ℕ)). WritesFront report x c) untouched (passes-part report left (in_sink b) (in_sink c) passes));
          ran = all_ran;
        }

        pub made-whole : (left : List ℕ) (c : Option (List ℕ)) → PassesOn report left b c → left ≡ [] → HasMemories d (machine_in d stage) → MadeWhole number start d a c
        unfolding machine_made entries_made
        made-whole left c passes all memories = record {
          written = subst (Appends a c) summary
              (subst (λ (x : Option (List ℕ)). Appends x c report) untouched
              (passes-all report (in_sink b) (in_sink c) (subst (λ (l : List ℕ). PassesOn report l b c) all passes)));
          pages = subst (HasMemories d) lines.machine memories;
          ran = lines.ran;
        }

-- three lines, one after another
pub said-thrice : (before one two three : List ℕ) (x y z : ReportLine) → one ≡ before ++ text_of (x ∷ []) → two ≡ one ++ text_of (y ∷ []) → three ≡ two ++ text_of (z ∷ []) → three ≡ before ++ text_of (x ∷ y ∷ z ∷ [])
said-thrice before one two three x y z first second third =
    said_twice before two three (x ∷ y ∷ []) (z ∷ []) (said_twice before one two (x ∷ []) (y ∷ []) first second) third

-- before anything was run
pub made-none : (number : ℕ) (d : Device) (a : Option (List ℕ)) → MadePart number d d a a
made-none number d a = made-untouched number a a refl (ran-before (ran-none d) (entries_made number))
