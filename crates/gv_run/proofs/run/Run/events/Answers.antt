use Rattle.std.proofs.Common.{true, refl, sym, ap, ◌∙◌, subst}
use Rattle.std.proofs.lemmas.Result.{err_from_is_err_and}
use Rattle.gv_machine.specs.Machine.{inputs_in}
use Rattle.gv_mediator.specs.Tied.{machine_of}
use Rattle.gv_text.specs.declared.known.Known.{Known}
use Rattle.gv_run.specs.Tied.{Agrees, machine_in}
use Rattle.gv_run.specs.declared.stage.Stage.TheVariants.{Running}
use Rattle.gv_run.proofs.CourseRuns.{runs-done, runs-lacking, runs-within}
use Rattle.gv_run.proofs.EventLines.{event-line, some-known, known-event, event-part, event-plays, stands-of, known-stage}
use Rattle.gv_run.proofs.Guests.{agrees-played}
use Rattle.gv_run.proofs.Left.{ran-before}
use Rattle.gv_run.proofs.run.Run.events.Goals as goal

pub begin-requires-clause-some : goal.begin-requires-clause-some
begin-requires-clause-some g c = some-known c.args.self.now.known c.args.line.now c.requires.accepted c.requires.event

pub returns-in_err-begin-clause-runs : goal.returns-in_err-begin-clause-runs
returns-in_err-begin-clause-runs g c =
    let p = err_from_is_err_and c.from_residual.result c.from_residual.ensures.1 in
    rw (p.1, p.2) (runs-lacking _ _ _ _ _ _ _ refl (ran-before c.begin.ensures.ran _) c.begin.ensures.quiet)

pub run_line-requires-clause-stands : goal.run_line-requires-clause-stands
run_line-requires-clause-stands g c =
    stands-of (g.G.Gpu.state c.begin.new.gpu) (record c.args.self.now.known { begun = true }) c.begin.new.self.stage c.in-Running.mediator c.in_ok-begin.ensures.agrees c.in-Running.is

pub run_line-requires-clause-line : goal.run_line-requires-clause-line
run_line-requires-clause-line g c =
    let e = g.G.Gpu.state c.begin.new.gpu in
    event-line (machine_of e c.in-Running.mediator) c.args.self.now.known
    (known-stage e c.args.self.now.known c.begin.new.self.stage c.in-Running.mediator c.in_ok-begin.ensures.agrees c.in-Running.is)
    c.args.line.now c.requires.accepted c.requires.form c.requires.event

pub returns-in_err-run_line-clause-runs : goal.returns-in_err-run_line-clause-runs
returns-in_err-run_line-clause-runs g c =
    let e = g.G.Gpu.state c.begin.new.gpu in
    let same = sym (ap (machine_in e) c.in-Running.is) ∙ c.in_ok-begin.ensures.machine in
    let part = event-part (g.G.Gpu.state c.args.gpu.now) e (g.G.Gpu.state c.run_line.new.gpu) (machine_of e c.in-Running.mediator) (machine_in (g.G.Gpu.state c.args.gpu.now) c.args.self.now.stage)
    c.args.line.now same c.requires.event c.begin.ensures.ran c.run_line.ensures.runs.part in
    let p = err_from_is_err_and c.from_residual-in_err-run_line.result c.from_residual-in_err-run_line.ensures.1 in
    rw (p.1, p.2) (runs-within _ _ _ _ _ _ _ c.in_err-run_line.field-0.0 _ _ _ _ _ c.in_err-run_line.ensures.runs refl part c.begin.ensures.quiet)

pub returns-in_ok-run_line-clause-runs : goal.returns-in_ok-run_line-clause-runs
returns-in_ok-run_line-clause-runs g c =
    let e = g.G.Gpu.state c.begin.new.gpu in
    let f = g.G.Gpu.state c.run_line.new.gpu in
    let same = sym (ap (machine_in e) c.in-Running.is) ∙ c.in_ok-begin.ensures.machine in
    let plays = event-plays (g.G.Gpu.state c.args.gpu.now) e f (machine_of e c.in-Running.mediator) (machine_in (g.G.Gpu.state c.args.gpu.now) c.args.self.now.stage)
    c.args.line.now same c.requires.event c.begin.ensures.ran c.begin.new.self.report c.args.self.now.report c.run_line.new.report (machine_of f c.run_line.new.mediator) c.begin.ensures.report c.in_ok-run_line.ensures.runs.done in
    runs-done _ _ _ _ _ _ _ plays (c.in_ok-run_line.ensures.runs.quiet ∙ c.begin.ensures.quiet)

pub returns-in_ok-run_line-clause-agrees : goal.returns-in_ok-run_line-clause-agrees
returns-in_ok-run_line-clause-agrees g c =
    let e = g.G.Gpu.state c.begin.new.gpu in
    let f = g.G.Gpu.state c.run_line.new.gpu in
    let known = c.args.self.now.known in
    let has = known-stage e known c.begin.new.self.stage c.in-Running.mediator c.in_ok-begin.ensures.agrees c.in-Running.is in
    subst (λ (k : Known). Agrees f k (Running c.run_line.new.mediator)) (sym (known-event known c.args.line.now c.requires.event))
    (agrees-played f known (machine_of e c.in-Running.mediator) c.run_line.new.mediator (inputs_in c.args.line.now) has c.in_ok-run_line.ensures.stands c.in_ok-run_line.ensures.runs.done.machine)
