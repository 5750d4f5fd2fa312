use Rattle.std.proofs.Common.{◌≡◌, ℕ, ◌+◌, ◌*◌, ◌%◌, ◌<◌, length, get_or, drop, refl, sym, ap, subst, arith, ◌∙◌}
use Rattle.std.proofs.lemmas.List.{drop_all}
use Rattle.std.proofs.lemmas.Result.{err_from_is_err_and}
use Rattle.gv_types.specs.Memory.{bytes_of}
use Rattle.gv_types.specs.Places.{address_limit}
use Rattle.gv_types.specs.declared.event.Event.TheVariants.{Write}
use Rattle.gv_gpu.specs.Change.{RanPart}
use Rattle.gv_private.specs.Inputs.{event}
use Rattle.gv_machine.specs.Machine.{input_course, writes_of}
use Rattle.gv_mediator.specs.Tied.{machine_of}
use Rattle.gv_text.specs.Grammar.{value_limit}
use Rattle.gv_run.specs.Tied.{Plays, entries_in}
use Rattle.gv_run.proofs.CourseRuns.{runs-done, runs-within}
use Rattle.gv_run.proofs.Loops.{going-all, going-on, going-part, going-over, write-first, all-at, value-fits, still-aligned, inside-place}
use Rattle.gv_run.proofs.events.writes.Goals as goal

pub loop-index-init : goal.loop-index-init
loop-index-init g c =
    let start = g.G.Gpu.state c.args.gpu.now in
    let values = c.args.values.now in
    let all = writes_of c.args.guest c.args.place c.args.width c.args.at values in
    let same : c.args.at + bytes_of c.args.width * 0 ≡ c.args.at = omega arith in
    record {
      stands = c.requires.stands;
      quiet = refl;
      going = going-all (machine_of start c.args.mediator.now) all _ c.args.report.now start (ap (λ at. writes_of c.args.guest c.args.place c.args.width at values) same);
    }

pub event-requires-clause-event : goal.event-requires-clause-event
event-requires-clause-event g c =
    let i = c.loop-index.index in
    let at = c.args.at in
    let width = c.args.width in
    let there : i < length c.args.values.now = omega arith in
    let going = c.loop-index.invariant.going in
    let count : length (machine_of (g.G.Gpu.state c.loop-index.gpu) c.loop-index.mediator).devices ≡ length (machine_of (g.G.Gpu.state c.args.gpu.now) c.args.mediator.now).devices = going.count in (
      subst (λ n. c.args.guest.0 < n) (sym count) c.requires.there,
      (
        refl,
        subst (λ b. (at + b * i) % bytes_of width ≡ 0) (sym c.bytes.ensures) (still-aligned width at i c.requires.aligned),
        subst (λ b. at + b * i < address_limit c.args.place) (sym c.bytes.ensures) (inside-place width at i (length c.args.values.now) (address_limit c.args.place) there c.requires.within),
        value-fits width (get_or c.args.values.now i 0) (all-at (λ value. value < value_limit width) c.args.values.now i c.requires.fit there),
      ),
    )

pub loop-index-preserved : goal.loop-index-preserved
loop-index-preserved g c =
    let i = c.loop-index.index in
    let values = c.args.values.now in
    let start = g.G.Gpu.state c.args.gpu.now in
    let d = g.G.Gpu.state c.loop-index.gpu in
    let e = g.G.Gpu.state c.event.new.gpu in
    let first = machine_of start c.args.mediator.now in
    let m = machine_of d c.loop-index.mediator in
    let after = machine_of e c.event.new.mediator in
    let all = writes_of c.args.guest c.args.place c.args.width c.args.at values in
    let left = writes_of c.args.guest c.args.place c.args.width (c.args.at + bytes_of c.args.width * i) (drop i values) in
    let rest = writes_of c.args.guest c.args.place c.args.width (c.args.at + bytes_of c.args.width * (i + 1)) (drop (i + 1) values) in
    let write = λ (bytes : ℕ). event (Write c.args.guest c.args.place c.args.width (c.args.at + bytes * i) (get_or values i 0)) in
    let plays = subst (λ b. Plays (input_course m (write b)) d c.loop-index.report e after c.event.new.report) c.bytes.ensures c.in_ok-event.ensures.runs.done in
    record {
      stands = c.in_ok-event.ensures.stands;
      quiet = c.in_ok-event.ensures.runs.quiet ∙ c.loop-index.invariant.quiet;
      going = going-on first all c.args.report.now start m (write (bytes_of c.args.width)) rest left c.loop-index.report d c.loop-index.invariant.going
          (write-first c.args.guest c.args.place c.args.width c.args.at values i (omega arith)) after c.event.new.report e plays;
    }

pub returns-in_err-event-clause-runs : goal.returns-in_err-event-clause-runs
returns-in_err-event-clause-runs g c =
    let i = c.loop-index.index in
    let values = c.args.values.now in
    let start = g.G.Gpu.state c.args.gpu.now in
    let d = g.G.Gpu.state c.loop-index.gpu in
    let e = g.G.Gpu.state c.event.new.gpu in
    let first = machine_of start c.args.mediator.now in
    let m = machine_of d c.loop-index.mediator in
    let all = writes_of c.args.guest c.args.place c.args.width c.args.at values in
    let left = writes_of c.args.guest c.args.place c.args.width (c.args.at + bytes_of c.args.width * i) (drop i values) in
    let rest = writes_of c.args.guest c.args.place c.args.width (c.args.at + bytes_of c.args.width * (i + 1)) (drop (i + 1) values) in
    let write = λ (bytes : ℕ). event (Write c.args.guest c.args.place c.args.width (c.args.at + bytes * i) (get_or values i 0)) in
    let part = subst (λ b. RanPart d e (entries_in (input_course m (write b)).came)) c.bytes.ensures c.event.ensures.runs.part in
    let went = going-part first all c.args.report.now start m (write (bytes_of c.args.width)) rest left c.loop-index.report d c.loop-index.invariant.going
    (write-first c.args.guest c.args.place c.args.width c.args.at values i (omega arith)) e part in
    let p = err_from_is_err_and c.from_residual.result c.from_residual.ensures.1 in
    rw (p.1, p.2) (runs-within _ _ _ _ _ _ _ c.in_err-event.field-0.0 _ _ _ _ _ c.in_err-event.ensures.runs refl went c.loop-index.invariant.quiet)

pub returns-clause-runs : goal.returns-clause-runs
returns-clause-runs g c =
    let i = c.loop-index.index in
    let start = g.G.Gpu.state c.args.gpu.now in
    let d = g.G.Gpu.state c.loop-index.gpu in
    let values = c.args.values.now in
    let at = c.args.at + bytes_of c.args.width * i in
    let plays = going-over (machine_of start c.args.mediator.now) (writes_of c.args.guest c.args.place c.args.width c.args.at values) c.args.report.now start (machine_of d c.loop-index.mediator)
    (writes_of c.args.guest c.args.place c.args.width at (drop i values)) c.loop-index.report d c.loop-index.invariant.going
    (ap (writes_of c.args.guest c.args.place c.args.width at) (drop_all i values (omega arith))) in
    runs-done _ _ _ _ _ _ _ plays c.loop-index.invariant.quiet
