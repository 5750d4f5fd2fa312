use Rattle.std.proofs.Common.{◌≡◌, ◌-◌, ◌^◌, ◌<◌, [], ◌∷◌, refl, sym, ◌∙◌, subst, arith}
use Rattle.std.proofs.lemmas.Result.{err_from_is_err_and}
use Rattle.gv_types.specs.declared.event.Event.TheVariants.{Turn}
use Rattle.gv_private.specs.Inputs.{event}
use Rattle.gv_machine.proofs.Rotas.{owner-there}
use Rattle.gv_mediator.specs.Tied.{machine_of}
use Rattle.gv_run.proofs.CourseRuns.{rose, runs-done, runs-lacking, runs-stopped}
use Rattle.gv_run.proofs.Left.{ran-whole}
use Rattle.gv_run.proofs.OneEvent.{stands-played, event-left}
use Rattle.gv_run.proofs.ManyTurns.{Turning, turning-ran, turning-none, turning-count, counts-room, turning-part, turning-still, reply-named, turning-more, turning-done}
use Rattle.gv_run.proofs.turns.turns.Goals as goal

pub loop-turn-init : goal.loop-turn-init
loop-turn-init g c =
    let start = g.G.Gpu.state c.args.gpu.now in
    record {
      stands = c.requires.stands;
      quiet = refl;
      small = omega arith;
      turning = turning-none (machine_of start c.args.mediator.now) c.args.engine start c.args.report.now;
    }

pub returns-in_err-reply-clause-runs : goal.returns-in_err-reply-clause-runs
returns-in_err-reply-clause-runs g c =
    let start = g.G.Gpu.state c.args.gpu.now in
    let m0 = machine_of start c.args.mediator.now in
    let there = owner-there m0 c.requires.stands.whole.owners c.requires.some c.args.engine.0 in
    let part = turning-still m0 c.args.engine there c.loop-turn.turn start (g.G.Gpu.state c.loop-turn.gpu) c.args.report.now c.loop-turn.report (machine_of (g.G.Gpu.state c.loop-turn.gpu) c.loop-turn.mediator) c.loop-turn.counts c.loop-turn.owner c.loop-turn.invariant.turning
    _ c.in_err-reply.ensures.stops.stopped c.args.count (omega arith) in
    let p = err_from_is_err_and c.from_residual.result c.from_residual.ensures.1 in
    let stops = c.in_err-reply.ensures.stops in
    rw (p.1, p.2) (runs-stopped _ _ _ _ _ _ _ c.in_err-reply.field-0.0 refl part (λ fault. rose c.loop-turn.invariant.stands.quiet (stops.cause fault)) (λ lack. stops.memory lack ∙ c.loop-turn.invariant.quiet))

pub tell_alarms-requires : goal.tell_alarms-requires
tell_alarms-requires g c =
    let start = g.G.Gpu.state c.args.gpu.now in
    let m0 = machine_of start c.args.mediator.now in
    let there = owner-there m0 c.requires.stands.whole.owners c.requires.some c.args.engine.0 in
    let named = reply-named m0 c.args.engine there c.loop-turn.turn start (g.G.Gpu.state c.loop-turn.gpu) c.args.report.now c.loop-turn.report (machine_of (g.G.Gpu.state c.loop-turn.gpu) c.loop-turn.mediator) c.loop-turn.counts c.loop-turn.owner c.loop-turn.invariant.turning
    c.in_ok-reply.reply c.in_ok-reply.ensures.answers.reply in
    let number = c.requires.stands.whole.numbers (m0.owners c.args.engine.0) there in
    let eight = c.requires.stands.eight in
    subst (λ n. n < 8) (sym (named ∙ number)) (omega arith)

pub returns-in_err-tell_alarms-clause-runs : goal.returns-in_err-tell_alarms-clause-runs
returns-in_err-tell_alarms-clause-runs g c =
    let start = g.G.Gpu.state c.args.gpu.now in
    let m0 = machine_of start c.args.mediator.now in
    let there = owner-there m0 c.requires.stands.whole.owners c.requires.some c.args.engine.0 in
    let part = turning-part m0 c.args.engine there c.loop-turn.turn start (g.G.Gpu.state c.loop-turn.gpu) c.args.report.now c.loop-turn.report (machine_of (g.G.Gpu.state c.loop-turn.gpu) c.loop-turn.mediator) c.loop-turn.counts c.loop-turn.owner c.loop-turn.invariant.turning
    _ c.in_ok-reply.ensures.answers.ran c.args.count (omega arith) in
    let p = err_from_is_err_and c.from_residual-in_err-tell_alarms.result c.from_residual-in_err-tell_alarms.ensures.1 in
    rw (p.1, p.2) (runs-lacking _ _ _ _ _ _ _ refl part (c.in_ok-reply.ensures.answers.quiet ∙ c.loop-turn.invariant.quiet))

pub count_turn-requires : goal.count_turn-requires
count_turn-requires g c =
    let start = g.G.Gpu.state c.args.gpu.now in
    let m0 = machine_of start c.args.mediator.now in
    let there = owner-there m0 c.requires.stands.whole.owners c.requires.some c.args.engine.0 in
    let fits : c.loop-turn.turn < 2 ^ 32 - 1 = omega arith in
    counts-room m0 c.args.engine there c.loop-turn.turn start (g.G.Gpu.state c.loop-turn.gpu) c.args.report.now c.loop-turn.report (machine_of (g.G.Gpu.state c.loop-turn.gpu) c.loop-turn.mediator) c.loop-turn.counts c.loop-turn.owner c.loop-turn.invariant.turning fits

pub loop-turn-preserved : goal.loop-turn-preserved
loop-turn-preserved g c =
    let start = g.G.Gpu.state c.args.gpu.now in
    let d = g.G.Gpu.state c.loop-turn.gpu in
    let m0 = machine_of start c.args.mediator.now in
    let m = machine_of d c.loop-turn.mediator in
    let engine = c.args.engine in
    let there = owner-there m0 c.requires.stands.whole.owners c.requires.some engine.0 in
    let turning = c.loop-turn.invariant.turning in
    let named = reply-named m0 engine there c.loop-turn.turn start d c.args.report.now c.loop-turn.report m c.loop-turn.counts c.loop-turn.owner turning c.in_ok-reply.reply c.in_ok-reply.ensures.answers.reply in
    let number = c.requires.stands.whole.numbers (m0.owners engine.0) there in
    let eight = c.requires.stands.eight in
    let some = subst (λ n. 0 < n) (sym (turning-count m0 engine turning)) c.requires.some in
    record {
      stands = stands-played d _ c.loop-turn.mediator c.event.new.self (event (Turn engine) ∷ []) c.loop-turn.invariant.stands ((some, c.requires.engine), tt)
          c.in_ok-reply.ensures.answers.tied c.in_ok-reply.ensures.stopped c.in_ok-reply.ensures.answers.quiet (c.in_ok-reply.ensures.answers.machine ∙ event-left m (Turn engine) (m.owners engine.0) refl);
      quiet = c.in_ok-reply.ensures.answers.quiet ∙ c.loop-turn.invariant.quiet;
      small = subst (λ n. n < 8) (sym (named ∙ number)) (omega arith);
      turning = turning-more m0 engine there c.loop-turn.turn start d c.args.report.now c.loop-turn.report m c.loop-turn.counts c.loop-turn.owner turning c.in_ok-reply.reply c.in_ok-reply.ensures.answers.reply
          _ _ c.tell_alarms.new.report c.count_turn.new.counts c.in_ok-reply.ensures.answers.machine c.in_ok-tell_alarms.ensures c.count_turn.ensures c.in_ok-reply.ensures.answers.ran;
    }

pub returns-in_err-tell_turns-clause-runs : goal.returns-in_err-tell_turns-clause-runs
returns-in_err-tell_turns-clause-runs g c =
    let start = g.G.Gpu.state c.args.gpu.now in
    let d = g.G.Gpu.state c.loop-turn.gpu in
    let m0 = machine_of start c.args.mediator.now in
    let last : c.loop-turn.turn ≡ c.args.count = omega arith in
    let part = ran-whole (turning-ran m0 c.args.engine (subst (λ i. Turning m0 c.args.engine i start c.args.report.now (machine_of d c.loop-turn.mediator) c.loop-turn.report c.loop-turn.counts c.loop-turn.owner d) last c.loop-turn.invariant.turning)) in
    let p = err_from_is_err_and c.from_residual-in_err-tell_turns.result c.from_residual-in_err-tell_turns.ensures.1 in
    rw (p.1, p.2) (runs-lacking _ _ _ _ _ _ _ refl part c.loop-turn.invariant.quiet)

pub returns-clause-runs : goal.returns-clause-runs
returns-clause-runs g c =
    let start = g.G.Gpu.state c.args.gpu.now in
    let d = g.G.Gpu.state c.loop-turn.gpu in
    let m0 = machine_of start c.args.mediator.now in
    let last : c.loop-turn.turn ≡ c.args.count = omega arith in
    let plays = turning-done m0 c.args.engine c.args.count start d c.args.report.now c.loop-turn.report c.tell_turns.new.report (machine_of d c.loop-turn.mediator) c.loop-turn.counts c.loop-turn.owner
    (subst (λ i. Turning m0 c.args.engine i start c.args.report.now (machine_of d c.loop-turn.mediator) c.loop-turn.report c.loop-turn.counts c.loop-turn.owner d) last c.loop-turn.invariant.turning)
    c.in_ok-tell_turns.ensures in
    runs-done _ _ _ _ _ _ _ plays c.loop-turn.invariant.quiet
