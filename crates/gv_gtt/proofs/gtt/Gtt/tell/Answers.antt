use Rattle.std.proofs.Common.{List, ℕ, sym, subst, true, false}
use Rattle.gv_gtt.specs.Turning.{MayTurn, Turned}
use Rattle.gv_gtt.proofs.Turning.{may-come, may-go, told-translates}
use Rattle.gv_gtt.proofs.gtt.Gtt.tell.Goals as goal

pub turn_all-requires-clause-may : goal.turn_all-requires-clause-may
turn_all-requires-clause-may g c =
    let self = c.args.self.now in
    subst (λ (xs : List ℕ). MayTurn self xs true) (sym c.as_slice.ensures.value)
    (may-come (g.G.Gpu.state c.args.gpu.now) self c.requires.serving c.args.changed.now.guarded.items c.args.changed.now.unguarded.items c.requires.tells)

pub turn_all-requires-2-clause-may : goal.turn_all-requires-2-clause-may
turn_all-requires-2-clause-may g c =
    let self = c.args.self.now in
    let d = g.G.Gpu.state c.args.gpu.now in
    let e = g.G.Gpu.state c.turn_all.new.gpu in
    subst (λ (xs : List ℕ). MayTurn c.turn_all.new.self xs false) (sym c.as_slice-2.ensures.value)
    (may-go d self c.requires.serving c.args.changed.now.guarded.items c.args.changed.now.unguarded.items c.requires.tells e c.turn_all.new.self
    (subst (λ (xs : List ℕ). Turned d e self c.turn_all.new.self xs true) c.as_slice.ensures.value c.turn_all.ensures))

pub returns-clause-translates : goal.returns-clause-translates
returns-clause-translates g c =
    let self = c.args.self.now in
    let d = g.G.Gpu.state c.args.gpu.now in
    let e = g.G.Gpu.state c.turn_all.new.gpu in
    let f = g.G.Gpu.state c.turn_all-2.new.gpu in
    told-translates d self c.requires.serving c.args.changed.now.guarded.items c.args.changed.now.unguarded.items c.requires.tells e c.turn_all.new.self
    (subst (λ (xs : List ℕ). Turned d e self c.turn_all.new.self xs true) c.as_slice.ensures.value c.turn_all.ensures) f c.turn_all-2.new.self
    (subst (λ (xs : List ℕ). Turned e f c.turn_all.new.self c.turn_all-2.new.self xs false) c.as_slice-2.ensures.value c.turn_all-2.ensures)
