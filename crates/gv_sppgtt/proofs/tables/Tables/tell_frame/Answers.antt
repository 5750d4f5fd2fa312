use mathlib.Core.Bool.{beq}
use Rattle.std.proofs.Common.{◌≡◌, ◌<◌, Bool, true, false, length, get_or, refl, sym, ap, ◌∙◌, subst}
use Rattle.std.proofs.lemmas.List.{get_or_default}
use Rattle.gv_nodes.specs.NodeMap.{NodeMap}
use Rattle.gv_sppgtt.specs.Sound.{pages_in}
use Rattle.gv_sppgtt.specs.State.{is_table}
use Rattle.gv_sppgtt.proofs.Changes.{changes-none, pins-same}
use Rattle.gv_sppgtt.proofs.LiveCounts.{live-nodes}
use Rattle.gv_sppgtt.proofs.Telling.{told-now, telling-same, telling-turned}
use Rattle.gv_sppgtt.proofs.tables.Tables.tell_frame.Goals as goal

same_bool : (a b : Bool) → beq a b ≡ true → a ≡ b
same_bool true true e = refl
same_bool true false e = cc
same_bool false true e = cc
same_bool false false e = refl

other_bool : (a b : Bool) → beq a b ≡ false → a ≡ b → ⊥
other_bool true true e is = cc
other_bool true false e is = cc
other_bool false true e is = cc
other_bool false false e is = cc

pub returns-then-guarded-index-clause-telling : goal.returns-then-guarded-index-clause-telling
returns-then-guarded-index-clause-telling g c d t was =
    let e = g.G.Gpu.state c.args.gpu.now in
    let u = c.args.self.now in
    let low = subst (λ n. c.args.frame < n) (sym c.requires.holds.sound.told_long) c.requires.frame in
    let known : get_or u.told.items c.args.frame false ≡ c.index.result.now = get_or_default u.told.items c.args.frame false c.index.result.now low ∙ sym c.index.ensures in
    telling-same c.args.frames.now d t c.args.frame e u c.args.changed.now.guarded.items c.args.changed.now.unguarded.items
    (sym (told-now c.args.frames.now d t c.args.frame e u c.args.changed.now.guarded.items c.args.changed.now.unguarded.items was) ∙ known ∙ sym (same_bool c.is_table-guarded.result c.index.result.now c.if-guarded-index.true)
    ∙ c.is_table-guarded.ensures ∙ ap (λ (n : NodeMap). is_table (pages_in n) c.args.frame) was.nodes) was

pub returns-clause-telling : goal.returns-clause-telling
returns-clause-telling g c d t was =
    let e = g.G.Gpu.state c.args.gpu.now in
    let f = g.G.Gpu.state c.flip.new.gpu in
    let u = c.args.self.now in
    let v = c.flip.new.self in
    let p = c.in_ok-push.ensures in
    let q = c.flip.ensures in
    let low = subst (λ n. c.args.frame < n) (sym c.requires.holds.sound.told_long) c.requires.frame in
    let known : get_or u.told.items c.args.frame false ≡ c.index.result.now = get_or_default u.told.items c.args.frame false c.index.result.now low ∙ sym c.index.ensures in
    telling-turned c.args.frames.now d t c.args.frame e f u v c.args.changed.now.guarded.items c.args.changed.now.unguarded.items c.push.new.self.guarded.items c.push.new.self.unguarded.items was c.is_table-guarded.result
    (c.is_table-guarded.ensures ∙ ap (λ (n : NodeMap). is_table (pages_in n) c.args.frame) was.nodes)
    (λ is. other_bool c.is_table-guarded.result c.index.result.now c.if-guarded-index.false (is ∙ known)) low q.told p.guarded p.unguarded q.nodes q.readings q.memory q.outside q.guest q.touched

pub returns-then-guarded-index-clause-changes : goal.returns-then-guarded-index-clause-changes
returns-then-guarded-index-clause-changes g c = changes-none c.args.frames.now (g.G.Gpu.state c.args.gpu.now) c.args.self.now c.args.pins.now

pub returns-in_err-push-clause-changes : goal.returns-in_err-push-clause-changes
returns-in_err-push-clause-changes g c =
    let q = c.flip.ensures in
    record { memory = q.memory; others = q.outside; live = live-nodes (length c.args.frames.now.pages) (g.G.Gpu.state c.args.gpu.now) (g.G.Gpu.state c.flip.new.gpu) c.args.self.now.nodes c.flip.new.self.nodes q.live q.nodes; guest = q.guest; pins = pins-same (length c.args.frames.now.pages) (g.G.Gpu.state c.args.gpu.now) (g.G.Gpu.state c.flip.new.gpu) c.args.self.now c.flip.new.self c.args.pins.now q.readings }

pub returns-clause-changes : goal.returns-clause-changes
returns-clause-changes g c =
    let q = c.flip.ensures in
    record { memory = q.memory; others = q.outside; live = live-nodes (length c.args.frames.now.pages) (g.G.Gpu.state c.args.gpu.now) (g.G.Gpu.state c.flip.new.gpu) c.args.self.now.nodes c.flip.new.self.nodes q.live q.nodes; guest = q.guest; pins = pins-same (length c.args.frames.now.pages) (g.G.Gpu.state c.args.gpu.now) (g.G.Gpu.state c.flip.new.gpu) c.args.self.now c.flip.new.self c.args.pins.now q.readings }

pub returns-then-guarded-index-clause-idle : goal.returns-then-guarded-index-clause-idle
returns-then-guarded-index-clause-idle g c is = (refl, refl)

pub returns-in_err-push-clause-idle : goal.returns-in_err-push-clause-idle
returns-in_err-push-clause-idle g c is =
    let u = c.args.self.now in
    let low = subst (λ n. c.args.frame < n) (sym c.requires.holds.sound.told_long) c.requires.frame in
    let known : get_or u.told.items c.args.frame false ≡ c.index.result.now = get_or_default u.told.items c.args.frame false c.index.result.now low ∙ sym c.index.ensures in
    absurd (other_bool c.is_table-guarded.result c.index.result.now c.if-guarded-index.false (c.is_table-guarded.ensures ∙ sym is ∙ known))

pub returns-clause-idle : goal.returns-clause-idle
returns-clause-idle g c is =
    let u = c.args.self.now in
    let low = subst (λ n. c.args.frame < n) (sym c.requires.holds.sound.told_long) c.requires.frame in
    let known : get_or u.told.items c.args.frame false ≡ c.index.result.now = get_or_default u.told.items c.args.frame false c.index.result.now low ∙ sym c.index.ensures in
    absurd (other_bool c.is_table-guarded.result c.index.result.now c.if-guarded-index.false (c.is_table-guarded.ensures ∙ sym is ∙ known))
