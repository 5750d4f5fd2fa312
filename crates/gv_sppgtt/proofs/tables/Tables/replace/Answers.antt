use Rattle.std.proofs.Common.{◌+◌, ◌≤◌, ◌≡◌, length, ap, ◌∙◌, sym, subst, arith}
use Rattle.gv_shape.specs.Counts.{uses, one_if, names_node}
use Rattle.gv_sppgtt.specs.Sound.{child_entry}
use Rattle.gv_sppgtt.specs.State.{readings_of, parents_of}
use Rattle.gv_sppgtt.proofs.Entered.{uses-entered}
use Rattle.gv_sppgtt.specs.declared.tables.Tables.{Tables}
use Rattle.gv_sppgtt.proofs.Poked.{leaves-above, holds-poked, keeps-poked, pinned-above}
use Rattle.gv_sppgtt.proofs.tables.Tables.replace.Goals as goal
use Rattle.gv_shape.proofs.Levels.{names-it}

pub returns-clause-holds : goal.returns-clause-holds
returns-clause-holds g c =
    let d = g.G.Gpu.state c.args.gpu.now in
    let e = g.G.Gpu.state c.put_table.new.gpu in
    let t = c.args.self.now in
    let u = c.put_table.new.self in
    let p = c.put_table.ensures in
    holds-poked d e c.args.frames.now t u c.args.pins.now c.args.level c.args.frame c.args.page c.args.index p.poke.0 c.requires.holds c.requires.node p.poke.1
    (ap (λ (x : Tables). x.nodes) p.same) (ap (λ (x : Tables). x.guest) p.same) (ap (λ (x : Tables). x.told) p.same) c.args.pins.now p.sound
    (pinned-above d e c.args.frames.now t u c.args.pins.now c.args.level c.args.frame c.args.index (child_entry c.args.child) c.requires.holds.pinned c.requires.high c.requires.few (c.requires.holds.sound.boarded.low c.args.level c.args.frame c.args.page c.requires.node).0 c.requires.within p.enters)

pub returns-clause-keeps : goal.returns-clause-keeps
returns-clause-keeps g c =
    let d = g.G.Gpu.state c.args.gpu.now in
    let e = g.G.Gpu.state c.put_table.new.gpu in
    let p = c.put_table.ensures in
    keeps-poked d e c.args.frames.now c.args.self.now c.put_table.new.self c.args.pins.now c.args.level c.args.frame c.args.page c.args.index p.poke.0 c.requires.holds c.requires.node p.poke.1
    (ap (λ (x : Tables). x.nodes) p.same) (ap (λ (x : Tables). x.guest) p.same) (ap (λ (x : Tables). x.told) p.same)
    c.args.pins.now (leaves-above d e c.args.frames.now c.args.self.now c.put_table.new.self c.args.pins.now c.args.level c.args.frame c.args.index (child_entry c.args.child) c.requires.high c.requires.few (c.requires.holds.sound.boarded.low c.args.level c.args.frame c.args.page c.requires.node).0 c.requires.within p.enters) (ap (λ (x : Tables). x.touched) p.same)

pub returns-clause-held : goal.returns-clause-held
returns-clause-held g c h lower reads up one six =
    let d = g.G.Gpu.state c.args.gpu.now in
    let e = g.G.Gpu.state c.put_table.new.gpu in
    let t = c.args.self.now in
    let u = c.put_table.new.self in
    let p = c.put_table.ensures in
    let sound = c.requires.holds.sound in
    let used = uses-entered (length c.args.frames.now.pages) (readings_of d t) (readings_of e u) c.args.level c.args.frame c.args.index (child_entry c.args.child) p.enters (sound.boarded.low c.args.level c.args.frame c.args.page c.requires.node).0 c.requires.within (names_node lower h) in
    let named : one_if (names_node lower h (readings_of d t c.args.level c.args.frame c.args.index)) ≡ 1 = ap (λ r. one_if (names_node lower h r)) reads ∙ ap one_if (names-it lower h six) in
    let room = subst (λ l. uses (length c.args.frames.now.pages) (readings_of d t) l (names_node lower h) + one_if (names_node lower h (child_entry c.args.child)) ≤ parents_of t lower h) up (c.requires.room lower h one up) in
    let same : parents_of u lower h ≡ parents_of t lower h = ap (λ (x : Tables). parents_of x lower h) p.same in
    subst (λ l. uses (length c.args.frames.now.pages) (readings_of e u) l (names_node lower h) + 1 ≤ parents_of u lower h) (sym up) (omega arith)
