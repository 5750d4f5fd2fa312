use Rattle.std.proofs.Common.{◌<◌, ltb, is_some, refl, sym, ap, ◌∙◌, subst}
use Rattle.gv_nodes.specs.NodeMap.{NodeMap}
use Rattle.gv_sppgtt.specs.Sound.{pages_in}
use Rattle.std.proofs.lemmas.Bool.{ltb-true, and_parts}
use Rattle.gv_sppgtt.specs.State.{pages_of}
use Rattle.gv_sppgtt.specs.Serving.{roots_of, without_root}
use Rattle.gv_sppgtt.proofs.Serving.{is-root, roots-without}
use Rattle.gv_sppgtt.proofs.Served.{rests-removed, done-serves, done-roots, done-tells}
use Rattle.gv_sppgtt.proofs.Changes.{changes-kept, changes_trans}
use Rattle.gv_sppgtt.proofs.tables.Tables.remove_root.Goals as goal

pub release-requires-clause-frame : goal.release-requires-clause-frame
release-requires-clause-frame g c =
    let t = c.args.self.now in
    subst (λ n. c.args.root < n) c.requires.serves.holds.sound.frames (ltb-true c.args.root t.nodes.frames (and_parts (ltb c.args.root t.nodes.frames) (is_some (pages_of t 4 c.args.root)) (sym (is-root t c.args.root) ∙ c.requires.root)).0)

pub returns-clause-serves : goal.returns-clause-serves
returns-clause-serves g c =
    let d = g.G.Gpu.state c.args.gpu.now in
    let e = g.G.Gpu.state c.release.new.gpu in
    let f = g.G.Gpu.state c.tell.new.gpu in
    let placed = c.args.frames.now in
    let t = c.args.self.now in
    let u = c.release.new.self in
    let v = c.tell.new.self in
    let p = c.in_ok-changed.ensures in
    done-serves placed d e f t u (record v { touched = u.touched }) v c.args.pins.now c.release.new.pins (without_root (roots_of t) c.args.root) c.in_ok-changed.changed.guarded.items c.in_ok-changed.changed.unguarded.items 0 0
    c.release.ensures.keeps c.release.ensures.holds (rests-removed placed d e t u c.args.pins.now c.release.new.pins c.args.root c.requires.serves c.requires.root c.release.ensures.dropped c.release.ensures.keeps) p.telling p.holds refl refl refl p.untouched

pub returns-clause-roots : goal.returns-clause-roots
returns-clause-roots g c =
    let d = g.G.Gpu.state c.args.gpu.now in
    let e = g.G.Gpu.state c.release.new.gpu in
    let f = g.G.Gpu.state c.tell.new.gpu in
    let placed = c.args.frames.now in
    let t = c.args.self.now in
    let u = c.release.new.self in
    let v = c.tell.new.self in
    let p = c.in_ok-changed.ensures in
    done-roots placed d e f t u (record v { touched = u.touched }) v c.args.pins.now c.release.new.pins (without_root (roots_of t) c.args.root) c.in_ok-changed.changed.guarded.items c.in_ok-changed.changed.unguarded.items 0 0
    c.release.ensures.keeps c.release.ensures.holds (rests-removed placed d e t u c.args.pins.now c.release.new.pins c.args.root c.requires.serves c.requires.root c.release.ensures.dropped c.release.ensures.keeps) p.telling p.holds refl refl refl p.untouched
    ∙ roots-without d placed t c.args.pins.now c.requires.serves.holds c.args.root

pub returns-clause-changed : goal.returns-clause-changed
returns-clause-changed g c =
    let d = g.G.Gpu.state c.args.gpu.now in
    let e = g.G.Gpu.state c.release.new.gpu in
    let f = g.G.Gpu.state c.tell.new.gpu in
    let placed = c.args.frames.now in
    let t = c.args.self.now in
    let u = c.release.new.self in
    let v = c.tell.new.self in
    let p = c.in_ok-changed.ensures in
    done-tells placed d e f t u (record v { touched = u.touched }) v c.args.pins.now c.release.new.pins (without_root (roots_of t) c.args.root) c.in_ok-changed.changed.guarded.items c.in_ok-changed.changed.unguarded.items 0 0
    c.release.ensures.keeps c.release.ensures.holds (rests-removed placed d e t u c.args.pins.now c.release.new.pins c.args.root c.requires.serves c.requires.root c.release.ensures.dropped c.release.ensures.keeps) p.telling p.holds refl refl refl p.untouched

pub returns-clause-stay : goal.returns-clause-stay
returns-clause-stay g c k f q is = c.release.ensures.dropped.within k f q (ap (λ (n : NodeMap). pages_in n k f) (sym c.in_ok-changed.ensures.telling.nodes) ∙ is)

pub returns-in_err-changed-clause-changes : goal.returns-in_err-changed-clause-changes
returns-in_err-changed-clause-changes g c =
    let d = g.G.Gpu.state c.args.gpu.now in
    let e = g.G.Gpu.state c.release.new.gpu in
    let f = g.G.Gpu.state c.tell.new.gpu in
    changes_trans c.args.frames.now d e f c.args.self.now c.release.new.self c.tell.new.self c.args.pins.now c.release.new.pins c.release.new.pins
    (changes-kept c.args.frames.now d e c.args.self.now c.release.new.self c.args.pins.now c.release.new.pins c.release.ensures.keeps) c.in_err-changed.ensures.changes

pub returns-clause-changes : goal.returns-clause-changes
returns-clause-changes g c =
    let d = g.G.Gpu.state c.args.gpu.now in
    let e = g.G.Gpu.state c.release.new.gpu in
    let f = g.G.Gpu.state c.tell.new.gpu in
    changes_trans c.args.frames.now d e f c.args.self.now c.release.new.self c.tell.new.self c.args.pins.now c.release.new.pins c.release.new.pins
    (changes-kept c.args.frames.now d e c.args.self.now c.release.new.self c.args.pins.now c.release.new.pins c.release.ensures.keeps) c.in_ok-changed.ensures.changes
