use Rattle.std.proofs.Common.{◌≡◌, ◌<◌, None, rules, refl, sym, subst}
use Rattle.std.proofs.lemmas.Result.{IfOk-weaker}
use Rattle.gv_private.specs.Turn.{turned}
use Rattle.gv_types.specs.declared.reply.Outcome.TheVariants as outcomes
use Rattle.gv_csb.specs.Slots.{current_of}
use Rattle.gv_mmio.specs.Mmio.{ports_at}
use Rattle.gv_vgpu.specs.Changes.{Turns}
use Rattle.gv_vgpu.specs.Vgpu.{engine_at, private_of}
use Rattle.gv_vgpu.specs.Owners.{is_here}
use Rattle.gv_vgpu.specs.Turn.{StepsOnce}
use Rattle.gv_vgpu.specs.declared.notice.Turned.{Turned}
use Rattle.gv_vgpu.proofs.OneStep.{asleep-none, none-once}
use Rattle.gv_vgpu.proofs.Outcomes.{idle-turns, list-is-busy, loads-once, none-there, on-err-busy, some-there, work-is-busy}
use Rattle.gv_vgpu.proofs.Unsubmitted.{unmade-engines}
use Rattle.gv_vgpu.proofs.vgpu.Vgpu.turn.Goals as goal

pub returns-then-is_none-clause-turns : goal.returns-then-is_none-clause-turns
returns-then-is_none-clause-turns g c =
    let old = c.args.self.now in
    let none : (engine_at old c.args.engine.0).element ≡ None =
    none-there old.engines c.args.engine.0 c.index-self-engine.result c.is_some.result (subst (λ n. c.args.engine.0 < n) (sym old.four) c.requires.engine) c.is_some.ensures c.if-is_some.false in
    let current : current_of (ports_at c.args.self.now.mmio c.args.engine.0).slots.running ≡ None = search rules in
    let d = g.G.Gpu.state c.args.gpu.now in
    subst (λ notice. Turns (is_here c.args.here) (g.G.Gpu.state c.args.gpu.now) (g.G.Gpu.state c.args.gpu.now) c.args.self.now c.args.self.now (turned (private_of (g.G.Gpu.state c.args.gpu.now) c.args.self.now (is_here c.args.here)) c.args.engine.0) outcomes.Idle notice) (sym c.none-then-is_none.ensures)
    (idle-turns d c.args.self.now (is_here c.args.here) c.args.engine.0 c.requires.holds c.if-self.false none current)

pub returns-then-self-clause-once : goal.returns-then-self-clause-once
returns-then-self-clause-once g c =
    let d = g.G.Gpu.state c.args.gpu.now in
    none-once (is_here c.args.here) d d c.args.self.now c.args.self.now c.args.engine.0 outcomes.Idle
    (asleep-none d c.args.self.now (is_here c.args.here) c.args.engine.0 c.requires.holds c.requires.engine c.requires.own c.if-self.true) refl

pub returns-then-is_none-clause-once : goal.returns-then-is_none-clause-once
returns-then-is_none-clause-once g c =
    let old = c.args.self.now in
    let none : (engine_at old c.args.engine.0).element ≡ None =
    none-there old.engines c.args.engine.0 c.index-self-engine.result c.is_some.result (subst (λ n. c.args.engine.0 < n) (sym old.four) c.requires.engine) c.is_some.ensures c.if-is_some.false in
    let d = g.G.Gpu.state c.args.gpu.now in
    none-once (is_here c.args.here) d d old old c.args.engine.0 outcomes.Idle none refl

pub returns-clause-once : goal.returns-clause-once
returns-clause-once g c =
    let old = c.args.self.now in
    let none : (engine_at old c.args.engine.0).element ≡ None =
    none-there old.engines c.args.engine.0 c.index-self-engine.result c.is_some.result (subst (λ n. c.args.engine.0 < n) (sym old.four) c.requires.engine) c.is_some.ensures c.if-is_some.false in
    let d = g.G.Gpu.state c.args.gpu.now in
    let e = g.G.Gpu.state c.load.new.gpu in
    IfOk-weaker c.load.result
    (λ (t : Turned). Turns (is_here c.args.here) (g.G.Gpu.state c.args.gpu.now) (g.G.Gpu.state c.load.new.gpu) c.args.self.now c.load.new.self (turned (private_of (g.G.Gpu.state c.args.gpu.now) c.args.self.now (is_here c.args.here)) c.args.engine.0) t.outcome t.notice)
    (λ (t : Turned). StepsOnce (is_here c.args.here) (g.G.Gpu.state c.args.gpu.now) (g.G.Gpu.state c.load.new.gpu) c.args.self.now c.load.new.self c.args.engine.0 t.outcome)
    (λ t turns. loads-once d c.args.self.now (is_here c.args.here) c.args.engine.0 c.requires.holds c.if-self.false none e c.load.new.self t.outcome t.notice (λ current. search rules) turns)
    c.load.ensures.turns

pub returns-then-is_some-clause-busy : goal.returns-then-is_some-clause-busy
returns-then-is_some-clause-busy g c =
    let old = c.args.self.now in
    on-err-busy c.step.result (private_of (g.G.Gpu.state c.args.gpu.now) old (is_here c.args.here)) c.args.engine.0
    (work-is-busy (g.G.Gpu.state c.args.gpu.now) old (is_here c.args.here) c.args.engine.0 c.if-self.false
    (some-there old.engines c.args.engine.0 c.index-self-engine.result c.is_some.result (subst (λ n. c.args.engine.0 < n) (sym old.four) c.requires.engine) c.is_some.ensures c.if-is_some.true))

pub returns-clause-busy : goal.returns-clause-busy
returns-clause-busy g c =
    let old = c.args.self.now in
    let none : (engine_at old c.args.engine.0).element ≡ None =
    none-there old.engines c.args.engine.0 c.index-self-engine.result c.is_some.result (subst (λ n. c.args.engine.0 < n) (sym old.four) c.requires.engine) c.is_some.ensures c.if-is_some.false in
    on-err-busy c.load.result (private_of (g.G.Gpu.state c.args.gpu.now) old (is_here c.args.here)) c.args.engine.0
    (list-is-busy (g.G.Gpu.state c.args.gpu.now) old (is_here c.args.here) c.args.engine.0 c.if-self.false none (λ current. search rules))

pub returns-then-is_some-clause-unsubmitted : goal.returns-then-is_some-clause-unsubmitted
returns-then-is_some-clause-unsubmitted g c = λ lack. unmade-engines (g.G.Gpu.state c.args.gpu.now) (g.G.Gpu.state c.step.new.gpu) (c.step.ensures.unmade lack)
