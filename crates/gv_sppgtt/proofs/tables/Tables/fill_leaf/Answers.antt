use Rattle.std.proofs.Common.{length, ap}
use Rattle.gv_guest.specs.Placed.{memory_in}
use Rattle.gv_sppgtt.specs.Sound.{pages_in, parents_in}
use Rattle.gv_sppgtt.specs.State.{sketch_of}
use Rattle.gv_sppgtt.proofs.Poked.{holds-poked, keeps-poked}
use Rattle.gv_sppgtt.proofs.Growing.{filled-leaf}
use Rattle.gv_sppgtt.proofs.tables.Tables.fill_leaf.Goals as goal

pub returns-clause-filled : goal.returns-clause-filled
returns-clause-filled g c =
    let d = g.G.Gpu.state c.args.gpu.now in
    let e = g.G.Gpu.state c.put_leaf.new.gpu in
    let t = c.args.self.now in
    let u = c.put_leaf.new.self in
    let p = c.put_leaf.ensures in
    filled-leaf (length c.args.frames.now.pages) (memory_in d c.args.frames.now) c.args.level c.args.frame c.args.index c.args.to c.args.writable (sketch_of d t) (sketch_of e u)
    (c.requires.holds.sound.boarded.low c.args.level c.args.frame c.args.page c.requires.node).0 c.requires.within c.requires.absent c.requires.entry (ap pages_in p.nodes) (ap parents_in p.nodes) p.enters

pub returns-clause-holds : goal.returns-clause-holds
returns-clause-holds g c =
    let d = g.G.Gpu.state c.args.gpu.now in
    let e = g.G.Gpu.state c.put_leaf.new.gpu in
    let t = c.args.self.now in
    let u = c.put_leaf.new.self in
    let p = c.put_leaf.ensures in
    holds-poked d e c.args.frames.now t u c.args.pins.now c.args.level c.args.frame c.args.page c.args.index p.poke.0 c.requires.holds c.requires.node p.poke.1 p.nodes p.guest p.told c.put_leaf.new.pins p.sound p.pinned

pub returns-clause-keeps : goal.returns-clause-keeps
returns-clause-keeps g c =
    let d = g.G.Gpu.state c.args.gpu.now in
    let e = g.G.Gpu.state c.put_leaf.new.gpu in
    let t = c.args.self.now in
    let u = c.put_leaf.new.self in
    let p = c.put_leaf.ensures in
    keeps-poked d e c.args.frames.now t u c.args.pins.now c.args.level c.args.frame c.args.page c.args.index p.poke.0 c.requires.holds c.requires.node p.poke.1 p.nodes p.guest p.told c.put_leaf.new.pins p.exact p.touched
