use Rattle.std.proofs.Common.{length, get_or, ap, ◌∙◌}
use Rattle.gv_shape.specs.Counts.{one_if, names_node}
use Rattle.gv_sppgtt.specs.Sound.{pages_in, parents_in, reading_at}
use Rattle.gv_sppgtt.specs.State.{sketch_of}
use Rattle.gv_sppgtt.proofs.Poked.{holds-poked, keeps-poked}
use Rattle.gv_sppgtt.proofs.Dropping.{emptied-leaf}
use Rattle.gv_sppgtt.proofs.Words.{leaf-names}
use Rattle.gv_sppgtt.proofs.tables.Tables.empty_leaf.Goals as goal
use Rattle.gv_sppgtt.proofs.Decoded.{decode-leaf}

pub returns-clause-emptied : goal.returns-clause-emptied
returns-clause-emptied g c =
    let d = g.G.Gpu.state c.args.gpu.now in
    let e = g.G.Gpu.state c.put_leaf.new.gpu in
    let t = c.args.self.now in
    let u = c.put_leaf.new.self in
    let p = c.put_leaf.ensures in
    emptied-leaf (length c.args.frames.now.pages) c.args.level c.args.frame c.args.index (sketch_of d t) (sketch_of e u)
    (c.requires.holds.sound.boarded.low c.args.level c.args.frame c.args.page c.requires.node).0 c.requires.within (ap pages_in p.nodes) (ap parents_in p.nodes) p.enters
    (λ k f. ap (λ o. one_if (names_node k f (reading_at d.words t.owners.items c.args.level o c.args.index))) c.requires.node ∙ ap (λ r. one_if (names_node k f r)) (decode-leaf t.owners.items c.args.level (get_or (d.words c.args.page) c.args.index 0) c.requires.leaves) ∙ leaf-names t.owners.items (get_or (d.words c.args.page) c.args.index 0) k f)

pub returns-clause-holds : goal.returns-clause-holds
returns-clause-holds g c =
    let d = g.G.Gpu.state c.args.gpu.now in
    let e = g.G.Gpu.state c.put_leaf.new.gpu in
    let p = c.put_leaf.ensures in
    holds-poked d e c.args.frames.now c.args.self.now c.put_leaf.new.self c.args.pins.now c.args.level c.args.frame c.args.page c.args.index p.poke.0 c.requires.holds c.requires.node p.poke.1 p.nodes p.guest p.told c.put_leaf.new.pins p.sound p.pinned

pub returns-clause-keeps : goal.returns-clause-keeps
returns-clause-keeps g c =
    let d = g.G.Gpu.state c.args.gpu.now in
    let e = g.G.Gpu.state c.put_leaf.new.gpu in
    let p = c.put_leaf.ensures in
    keeps-poked d e c.args.frames.now c.args.self.now c.put_leaf.new.self c.args.pins.now c.args.level c.args.frame c.args.page c.args.index p.poke.0 c.requires.holds c.requires.node p.poke.1 p.nodes p.guest p.told c.put_leaf.new.pins p.exact p.touched
