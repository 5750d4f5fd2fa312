use Rattle.std.proofs.Common.{◌≡◌, ℕ, List, Option, [], ◌∷◌, ◌++◌, sym, ap, subst}
use Rattle.gv_lines.specs.Outlet.{Delivery, GetsFront, Passes, got}
use Rattle.gv_lines.specs.declared.outlet.Outlet.{Outlet}
use Rattle.gv_lines.proofs.Passing.{passes-none}
use Rattle.gv_text.specs.Report.{text_of}
use Rattle.gv_text.specs.declared.report_line.ReportLine.{ReportLine}
use Rattle.gv_text.specs.declared.report_line.ReportLine.TheVariants as said
use Rattle.gv_text.specs.declared.ending.Ending.{Ending}
use Rattle.gv_machine.specs.Report.{memories_said, ending_said}
use Rattle.gv_run.specs.Tied.{machine_in}
use Rattle.gv_run.proofs.Saying.{TellsFront, last-told, last-front, front-said, passes-part}
use Rattle.gv_machine.proofs.Text.{said_none}
use Rattle.gv_run.proofs.ending.tell_ending.Goals as goal
use Rattle.gv_run.proofs.ending.tell_ending.Goals.{in-Done+in_ok-tell_guests-in-Done, in-BadScript, in-TooLong}

-- What was told before the last line, by the branches.
module _ (now : List ℕ) (all : List ReportLine) where
  of_branch : {K : Type 0} (held : K → Option (List ℕ)) (start : Delivery) (last is_last : ReportLine) (report is_report : List ℕ) (outlet is_outlet : Outlet) (sink is_sink : K)
      → last ≡ is_last → report ≡ is_report → outlet ≡ is_outlet → sink ≡ is_sink
      → TellsFront now all is_last is_report start (got is_outlet (held is_sink)) → TellsFront now all last report start (got outlet (held sink))
  of_branch held start last is_last report is_report outlet is_outlet sink is_sink e f o h front =
      subst (λ l. TellsFront now all l report start (got outlet (held sink))) (sym e)
      (subst (λ r. TellsFront now all is_last r start (got outlet (held sink))) (sym f)
      (subst (λ (x : Outlet). TellsFront now all is_last is_report start (got x (held sink))) (sym o)
      (subst (λ k. TellsFront now all is_last is_report start (got is_outlet (held k))) (sym h) front)))

  -- nothing was told before
  alone : (start : Delivery) (last : ReportLine) → last ∷ [] ≡ all → TellsFront now all last now start start
  alone start last is = record { front = []; whole = is; passed = subst (λ l. Passes l now start start) (said_none now) (passes-none now start) }

pub returns-in_err-tell_guests-in-Done-clause-part : goal.returns-in_err-tell_guests-in-Done-clause-part
returns-in_err-tell_guests-in-Done-clause-part g c =
    let m = machine_in (g.G.Gpu.state c.args.gpu.now) c.args.stage.now in
    let held = g.K.Sink.held in
    let now = c.args.report.now in
    let a = got c.args.outlet.now (held c.args.sink.now) in
    let b = got c.tell_guests.new.outlet (held c.tell_guests.new.sink) in
    subst (λ (e : Ending). GetsFront (now ++ text_of (ending_said e m)) a b) (sym c.in-Done.is)
    (front-said now (memories_said 0 m.devices) (said.Done ∷ []) a b c.tell_guests.ensures.part)

pub returns-in_err-tell-clause-part : goal.returns-in_err-tell-clause-part
returns-in_err-tell-clause-part g c =
    let held = g.K.Sink.held in
    let start = got c.args.outlet.now (held c.args.sink.now) in
    let m = machine_in (g.G.Gpu.state c.args.gpu.now) c.args.stage.now in
    let now = c.args.report.now in
    let all = ending_said c.args.ending m in
    let s = c.match-ending in
    let front : TellsFront now all s.last s.report start (got s.outlet (held s.sink)) = elim s.branch [
      | in-Done+in_ok-tell_guests-in-Done w ↦
          of_branch now all held start s.last _ s.report _ s.outlet _ s.sink _ w.last-is w.report-is w.outlet-is w.sink-is
          (record { front = memories_said 0 m.devices; whole = sym (ap (λ e. ending_said e m) w.in-Done.is); passed = w.in_ok-tell_guests-in-Done.ensures.told })
      | in-BadScript w ↦
          of_branch now all held start s.last _ s.report _ s.outlet _ s.sink _ w.last-is w.report-is w.outlet-is w.sink-is
          (alone now all start (said.Refused w.in-BadScript.number) (sym (ap (λ e. ending_said e m) w.in-BadScript.is)))
      | in-TooLong w ↦
          of_branch now all held start s.last _ s.report _ s.outlet _ s.sink _ w.last-is w.report-is w.outlet-is w.sink-is
          (alone now all start said.TooLong (sym (ap (λ e. ending_said e m) w.in-TooLong.is)))
    ] in
    last-front now all s.last s.report start (got s.outlet (held s.sink)) front

pub returns-clause-told : goal.returns-clause-told
returns-clause-told g c =
    let held = g.K.Sink.held in
    let start = got c.args.outlet.now (held c.args.sink.now) in
    let m = machine_in (g.G.Gpu.state c.args.gpu.now) c.args.stage.now in
    let now = c.args.report.now in
    let all = ending_said c.args.ending m in
    let s = c.match-ending in
    let front : TellsFront now all s.last s.report start (got s.outlet (held s.sink)) = elim s.branch [
      | in-Done+in_ok-tell_guests-in-Done w ↦
          of_branch now all held start s.last _ s.report _ s.outlet _ s.sink _ w.last-is w.report-is w.outlet-is w.sink-is
          (record { front = memories_said 0 m.devices; whole = sym (ap (λ e. ending_said e m) w.in-Done.is); passed = w.in_ok-tell_guests-in-Done.ensures.told })
      | in-BadScript w ↦
          of_branch now all held start s.last _ s.report _ s.outlet _ s.sink _ w.last-is w.report-is w.outlet-is w.sink-is
          (alone now all start (said.Refused w.in-BadScript.number) (sym (ap (λ e. ending_said e m) w.in-BadScript.is)))
      | in-TooLong w ↦
          of_branch now all held start s.last _ s.report _ s.outlet _ s.sink _ w.last-is w.report-is w.outlet-is w.sink-is
          (alone now all start said.TooLong (sym (ap (λ e. ending_said e m) w.in-TooLong.is)))
    ] in
    last-told now all s.last s.report start (got s.outlet (held s.sink)) front c.tell.new.report c.in_ok-tell.ensures

pub returns-clause-part : goal.returns-clause-part
returns-clause-part g c = passes-part _ c.tell.new.report (got c.args.outlet.now (g.K.Sink.held c.args.sink.now)) (got c.match-ending.outlet (g.K.Sink.held c.match-ending.sink)) (returns-clause-told g c)
