use Rattle.std.proofs.Common.{ap}
use Rattle.gv_sppgtt.specs.declared.tables.Tables.{Tables}
use Rattle.gv_sppgtt.proofs.Poked.{leaves-above, holds-poked, keeps-poked, pinned-above}
use Rattle.gv_sppgtt.proofs.tables.Tables.fill_table.Goals as goal
use Rattle.gv_shape.specs.Counts.{naming}

pub returns-clause-holds : goal.returns-clause-holds
returns-clause-holds g c =
    let d = g.G.Gpu.state c.args.gpu.now in
    let e = g.G.Gpu.state c.put_table.new.gpu in
    let t = c.args.self.now in
    let u = c.put_table.new.self in
    let p = c.put_table.ensures in
    holds-poked d e c.args.frames.now t u c.args.pins.now c.args.level c.args.frame c.args.page c.args.index p.poke.0 c.requires.holds c.requires.node p.poke.1
    (ap (λ (x : Tables). x.nodes) p.same) (ap (λ (x : Tables). x.guest) p.same) (ap (λ (x : Tables). x.told) p.same) c.args.pins.now p.sound
    (pinned-above d e c.args.frames.now t u c.args.pins.now c.args.level c.args.frame c.args.index (naming c.args.child.level c.args.child.frame) c.requires.holds.pinned c.requires.high c.requires.few (c.requires.holds.sound.boarded.low c.args.level c.args.frame c.args.page c.requires.node).0 c.requires.within p.enters)

pub returns-clause-keeps : goal.returns-clause-keeps
returns-clause-keeps g c =
    let d = g.G.Gpu.state c.args.gpu.now in
    let e = g.G.Gpu.state c.put_table.new.gpu in
    let t = c.args.self.now in
    let u = c.put_table.new.self in
    let p = c.put_table.ensures in
    keeps-poked d e c.args.frames.now t u c.args.pins.now c.args.level c.args.frame c.args.page c.args.index p.poke.0 c.requires.holds c.requires.node p.poke.1
    (ap (λ (x : Tables). x.nodes) p.same) (ap (λ (x : Tables). x.guest) p.same) (ap (λ (x : Tables). x.told) p.same)
    c.args.pins.now (leaves-above d e c.args.frames.now c.args.self.now c.put_table.new.self c.args.pins.now c.args.level c.args.frame c.args.index (naming c.args.child.level c.args.child.frame) c.requires.high c.requires.few (c.requires.holds.sound.boarded.low c.args.level c.args.frame c.args.page c.requires.node).0 c.requires.within p.enters) (ap (λ (x : Tables). x.touched) p.same)
