use Rattle.std.proofs.Common.{refl, sym, ◌∙◌, arith}
use Rattle.gv_lines.specs.Outlet.{got}
use Rattle.gv_run.specs.Tied.{machine_in}
use Rattle.gv_run.proofs.Making.{making-start, making-front, making-ran, making-still, making-passed, making-ended, making-began, making-more, made-front, made-ran}
use Rattle.gv_run.proofs.Guests.{first-machine}
use Rattle.gv_run.proofs.made.run_made.Goals as goal

pub loop-line-init : goal.loop-line-init
loop-line-init g c =
    let d = g.G.Gpu.state c.args.gpu.now in
    record {
      agrees = c.requires.agrees;
      making = making-start c.args.number d (got c.args.outlet.now (g.K.Sink.held c.args.sink.now)) c.into_iter-line-iterator.result c.args.run.now.known (machine_in d c.args.run.now.stage) c.args.run.now.report
          (c.into_iter-line-iterator.ensures.into_iter_gives ∙ c.new-line-items.ensures) c.requires.known (first-machine d c.args.run.now.stage c.requires.stage) c.requires.report;
      strays = refl;
      quiet = refl;
      writes = omega arith;
    }

pub returns-in_err-end-clause-written : goal.returns-in_err-end-clause-written
returns-in_err-end-clause-written g c = made-front c.args.number _ _ (making-front c.loop-line.invariant.making)

pub returns-in_err-end-clause-ran : goal.returns-in_err-end-clause-ran
returns-in_err-end-clause-ran g c =
    made-ran c.args.number _ _ (making-ran (making-still c.loop-line.invariant.making (g.G.Gpu.state c.end.new.gpu) c.end.ensures.ran c.end.new.self.report c.end.ensures.report))

-- ---- the line `end`

pub returns-then-is_end-clause-done : goal.returns-then-is_end-clause-done
returns-then-is_end-clause-done g c =
    making-ended (making-still c.loop-line.invariant.making (g.G.Gpu.state c.end.new.gpu) c.end.ensures.ran c.end.new.self.report c.end.ensures.report)
    c.in-Some.line c.next.new.self c.in-Some.ensures.steps (sym c.is_end.ensures ∙ c.if-is_end.true) c.end.new.self.stage (sym c.in_ok-end.ensures.machine)

pub returns-then-is_end-clause-written : goal.returns-then-is_end-clause-written
returns-then-is_end-clause-written g c = made-front c.args.number _ _ (making-front c.loop-line.invariant.making)

pub returns-then-is_end-clause-ran : goal.returns-then-is_end-clause-ran
returns-then-is_end-clause-ran g c =
    made-ran c.args.number _ _ (making-ran (making-still c.loop-line.invariant.making (g.G.Gpu.state c.end.new.gpu) c.end.ensures.ran c.end.new.self.report c.end.ensures.report))

-- ---- any other line

pub returns-in_err-line-clause-written : goal.returns-in_err-line-clause-written
returns-in_err-line-clause-written g c = made-front c.args.number _ _ (making-front c.loop-line.invariant.making)

pub returns-in_err-line-clause-ran : goal.returns-in_err-line-clause-ran
returns-in_err-line-clause-ran g c =
    made-ran c.args.number _ _ (making-began c.loop-line.invariant.making c.in-Some.line c.next.new.self c.in-Some.ensures.steps
    (sym c.is_end.ensures ∙ c.if-is_end.false) (g.G.Gpu.state c.line.new.gpu) c.in_err-line.ensures.runs.part)

pub loop-line-preserved : goal.loop-line-preserved
loop-line-preserved g c =
    let e = g.G.Gpu.state c.line.new.gpu in
    let done = c.in_ok-line.ensures.runs.done in
    let more = making-more c.loop-line.invariant.making c.in-Some.line c.next.new.self c.in-Some.ensures.steps (sym c.is_end.ensures ∙ c.if-is_end.false)
    (machine_in e c.line.new.self.stage) c.line.new.self.report e c.line.new.self.known c.in_ok-line.ensures.known done.machine done.report done.ran in
    record {
      agrees = c.in_ok-line.ensures.agrees;
      quiet = c.in_ok-line.ensures.runs.quiet ∙ c.loop-line.invariant.quiet;
      making = making-passed more c.pass_to.new.self (got c.pass_to.new.outlet (g.K.Sink.held c.pass_to.new.sink)) c.pass_to.ensures.passes;
      strays = done.ran.strays ∙ c.loop-line.invariant.strays;
      writes = omega (arith, c.loop-line.invariant.writes, c.pass_to.ensures.cause.later);
    }

pub returns-in_err-pass_to-clause-written : goal.returns-in_err-pass_to-clause-written
returns-in_err-pass_to-clause-written g c =
    let e = g.G.Gpu.state c.line.new.gpu in
    let done = c.in_ok-line.ensures.runs.done in
    let more = making-more c.loop-line.invariant.making c.in-Some.line c.next.new.self c.in-Some.ensures.steps (sym c.is_end.ensures ∙ c.if-is_end.false)
    (machine_in e c.line.new.self.stage) c.line.new.self.report e c.line.new.self.known c.in_ok-line.ensures.known done.machine done.report done.ran in
    made-front c.args.number _ _ (making-front (making-passed more c.pass_to.new.self (got c.pass_to.new.outlet (g.K.Sink.held c.pass_to.new.sink)) c.pass_to.ensures.passes))

pub returns-in_err-pass_to-clause-ran : goal.returns-in_err-pass_to-clause-ran
returns-in_err-pass_to-clause-ran g c =
    let e = g.G.Gpu.state c.line.new.gpu in
    let done = c.in_ok-line.ensures.runs.done in
    let more = making-more c.loop-line.invariant.making c.in-Some.line c.next.new.self c.in-Some.ensures.steps (sym c.is_end.ensures ∙ c.if-is_end.false)
    (machine_in e c.line.new.self.stage) c.line.new.self.report e c.line.new.self.known c.in_ok-line.ensures.known done.machine done.report done.ran in
    made-ran c.args.number _ _ (making-ran more)
