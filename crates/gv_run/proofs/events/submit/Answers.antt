use Rattle.std.proofs.Common.{◌≡◌, ℕ, ◌+◌, ◌^◌, ◌%◌, ◌<◌, List, length, get_or, drop, refl, sym, ap, subst, arith, ◌∙◌}
use Rattle.std.proofs.lemmas.List.{drop_all}
use Rattle.std.proofs.lemmas.Result.{err_from_is_err_and}
use Rattle.gv_types.specs.declared.event.Event.TheVariants.{Write}
use Rattle.gv_types.specs.declared.event.Place.TheVariants.{Registers}
use Rattle.gv_types.specs.declared.event.Width.TheVariants.{Four}
use Rattle.gv_types.specs.Engines.{register_base}
use Rattle.gv_gpu.specs.Change.{RanPart}
use Rattle.gv_private.specs.Inputs.{event}
use Rattle.gv_machine.specs.Machine.{input_course, port_writes}
use Rattle.gv_mediator.specs.Tied.{machine_of}
use Rattle.gv_run.specs.Tied.{Plays, entries_in}
use Rattle.gv_run.proofs.CourseRuns.{runs-done, runs-within}
use Rattle.gv_run.proofs.Loops.{going-all, going-on, going-part, going-over, port-first, port-fits, all-at, value-fits}
use Rattle.gv_run.proofs.events.submit.Goals as goal

pub loop-value-init : goal.loop-value-init
loop-value-init g c =
    let start = g.G.Gpu.state c.args.gpu.now in
    record {
      stands = c.requires.stands;
      quiet = refl;
      going = going-all (machine_of start c.args.mediator.now) (port_writes c.args.guest c.args.engine c.args.values.now) _ c.args.report.now start refl;
    }

pub event-requires-clause-event : goal.event-requires-clause-event
event-requires-clause-event g c =
    let i = c.loop-value.value-index in
    let there : i < length c.args.values.now = omega arith in
    let going = c.loop-value.invariant.going in
    let fits = port-fits c.args.engine in (
      subst (λ n. c.args.guest.0 < n) (sym going.count) c.requires.there,
      (
        refl,
        subst (λ b. (b + 0x230) % 4 ≡ 0) (sym c.base_of.ensures) fits.0,
        subst (λ b. b + 0x230 < 0x1000000) (sym c.base_of.ensures) fits.1,
        value-fits Four (get_or c.args.values.now i 0) (all-at (λ value. value < 2 ^ 32) c.args.values.now i c.requires.fit there),
      ),
    )

pub loop-value-preserved : goal.loop-value-preserved
loop-value-preserved g c =
    let i = c.loop-value.value-index in
    let values = c.args.values.now in
    let start = g.G.Gpu.state c.args.gpu.now in
    let d = g.G.Gpu.state c.loop-value.gpu in
    let e = g.G.Gpu.state c.event.new.gpu in
    let m = machine_of d c.loop-value.mediator in
    let after = machine_of e c.event.new.mediator in
    let port = λ (xs : List ℕ). port_writes c.args.guest c.args.engine xs in
    let write = λ (base : ℕ). event (Write c.args.guest Registers Four (base + 0x230) (get_or values i 0)) in
    let plays = subst (λ b. Plays (input_course m (write b)) d c.loop-value.report e after c.event.new.report) c.base_of.ensures c.in_ok-event.ensures.runs.done in
    record {
      stands = c.in_ok-event.ensures.stands;
      quiet = c.in_ok-event.ensures.runs.quiet ∙ c.loop-value.invariant.quiet;
      going = going-on (machine_of start c.args.mediator.now) (port values) c.args.report.now start m (write (register_base c.args.engine)) (port (drop (i + 1) values)) (port (drop i values)) c.loop-value.report d c.loop-value.invariant.going
          (port-first c.args.guest c.args.engine values i (omega arith)) after c.event.new.report e plays;
    }

pub returns-in_err-event-clause-runs : goal.returns-in_err-event-clause-runs
returns-in_err-event-clause-runs g c =
    let i = c.loop-value.value-index in
    let values = c.args.values.now in
    let start = g.G.Gpu.state c.args.gpu.now in
    let d = g.G.Gpu.state c.loop-value.gpu in
    let e = g.G.Gpu.state c.event.new.gpu in
    let m = machine_of d c.loop-value.mediator in
    let port = λ (xs : List ℕ). port_writes c.args.guest c.args.engine xs in
    let write = λ (base : ℕ). event (Write c.args.guest Registers Four (base + 0x230) (get_or values i 0)) in
    let part = subst (λ b. RanPart d e (entries_in (input_course m (write b)).came)) c.base_of.ensures c.event.ensures.runs.part in
    let went = going-part (machine_of start c.args.mediator.now) (port values) c.args.report.now start m (write (register_base c.args.engine)) (port (drop (i + 1) values)) (port (drop i values)) c.loop-value.report d c.loop-value.invariant.going
    (port-first c.args.guest c.args.engine values i (omega arith)) e part in
    let p = err_from_is_err_and c.from_residual.result c.from_residual.ensures.1 in
    rw (p.1, p.2) (runs-within _ _ _ _ _ _ _ c.in_err-event.field-0.0 _ _ _ _ _ c.in_err-event.ensures.runs refl went c.loop-value.invariant.quiet)

pub returns-clause-runs : goal.returns-clause-runs
returns-clause-runs g c =
    let i = c.loop-value.value-index in
    let start = g.G.Gpu.state c.args.gpu.now in
    let d = g.G.Gpu.state c.loop-value.gpu in
    let values = c.args.values.now in
    let plays = going-over (machine_of start c.args.mediator.now) (port_writes c.args.guest c.args.engine values) c.args.report.now start (machine_of d c.loop-value.mediator)
    (port_writes c.args.guest c.args.engine (drop i values)) c.loop-value.report d c.loop-value.invariant.going
    (ap (port_writes c.args.guest c.args.engine) (drop_all i values (omega arith))) in
    runs-done _ _ _ _ _ _ _ plays c.loop-value.invariant.quiet
