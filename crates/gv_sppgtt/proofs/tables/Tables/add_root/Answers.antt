use Rattle.std.proofs.Common.{Result, Err, ◌≡◌, ◌∷◌, length, refl, sym, ap, ◌∙◌}
use Rattle.std.proofs.lemmas.List.{length-map}
use Rattle.gv_guest.specs.Placed.{memory_in}
use Rattle.gv_nodes.specs.NodeMap.{NodeMap}
use Rattle.gv_sppgtt.specs.Sound.{pages_in}
use Rattle.gv_entry.specs.Tables.{has_bad_entry}
use Rattle.gv_sppgtt.specs.Serving.{roots_of, with_root}
use Rattle.gv_sppgtt.specs.declared.tables.TableFault.{TableFault}
use Rattle.gv_sppgtt.specs.declared.tables.TableFault.TheVariants.{BadEntry}
use Rattle.gv_sppgtt.specs.declared.changed.Changed.{Changed}
use Rattle.gv_sppgtt.proofs.Changes.{changes-kept, changes_trans}
use Rattle.gv_sppgtt.proofs.Served.{rests-added, refused-not, refused-so, root-live, done-serves, done-roots, done-tells, done-good}
use Rattle.gv_sppgtt.proofs.tables.Tables.add_root.Goals as goal

same_fault : (x y : TableFault) → ◌≡◌ {A = Result Changed TableFault} (Err x) (Err y) → x ≡ y
same_fault x y e = cc

pub returns-in-Err-clause-bad : goal.returns-in-Err-clause-bad
returns-in-Err-clause-bad g c is =
    let d = g.G.Gpu.state c.args.gpu.now in
    let placed = c.args.frames.now in
    let m = memory_in d placed in
    let long = length-map placed.pages d.words in
    let roots = roots_of c.args.self.now in
    refused-so m (length placed.pages) long roots c.args.root c.requires.frame
    (c.in-Err.ensures.bad (ap (λ e. Err e) (same_fault c.in-Err.fault BadEntry is)) (with_root (length m) roots c.args.root) (root-live m (length placed.pages) long roots c.args.root c.requires.frame))

pub returns-in-Err-clause-changes : goal.returns-in-Err-clause-changes
returns-in-Err-clause-changes g c = changes-kept c.args.frames.now (g.G.Gpu.state c.args.gpu.now) (g.G.Gpu.state c.acquire.new.gpu) c.args.self.now c.acquire.new.self c.args.pins.now c.acquire.new.pins c.in-Err.ensures.keeps

pub returns-in_err-changed-clause-changes : goal.returns-in_err-changed-clause-changes
returns-in_err-changed-clause-changes g c =
    let d = g.G.Gpu.state c.args.gpu.now in
    let e = g.G.Gpu.state c.acquire.new.gpu in
    let f = g.G.Gpu.state c.tell.new.gpu in
    changes_trans c.args.frames.now d e f c.args.self.now c.acquire.new.self c.tell.new.self c.args.pins.now c.acquire.new.pins c.acquire.new.pins
    (changes-kept c.args.frames.now d e c.args.self.now c.acquire.new.self c.args.pins.now c.acquire.new.pins c.in_default.ensures.keeps) c.in_err-changed.ensures.changes

pub returns-clause-changes : goal.returns-clause-changes
returns-clause-changes g c =
    let d = g.G.Gpu.state c.args.gpu.now in
    let e = g.G.Gpu.state c.acquire.new.gpu in
    let f = g.G.Gpu.state c.tell.new.gpu in
    changes_trans c.args.frames.now d e f c.args.self.now c.acquire.new.self c.tell.new.self c.args.pins.now c.acquire.new.pins c.acquire.new.pins
    (changes-kept c.args.frames.now d e c.args.self.now c.acquire.new.self c.args.pins.now c.acquire.new.pins c.in_default.ensures.keeps) c.in_ok-changed.ensures.changes

pub returns-clause-serves : goal.returns-clause-serves
returns-clause-serves g c =
    let d = g.G.Gpu.state c.args.gpu.now in
    let e = g.G.Gpu.state c.acquire.new.gpu in
    let f = g.G.Gpu.state c.tell.new.gpu in
    let t = c.args.self.now in
    let u = c.acquire.new.self in
    let v = c.tell.new.self in
    let a = c.in_default.ensures in
    let p = c.in_ok-changed.ensures in
    done-serves c.args.frames.now d e f t u (record v { touched = u.touched }) v c.args.pins.now c.acquire.new.pins (c.args.root ∷ roots_of t) c.in_ok-changed.changed.guarded.items c.in_ok-changed.changed.unguarded.items 0 0
    a.keeps a.holds (rests-added c.args.frames.now d e t u c.args.pins.now c.acquire.new.pins c.args.root c.requires.serves c.requires.new a.grown a.keeps) p.telling p.holds refl refl refl p.untouched

pub returns-clause-roots : goal.returns-clause-roots
returns-clause-roots g c =
    let d = g.G.Gpu.state c.args.gpu.now in
    let e = g.G.Gpu.state c.acquire.new.gpu in
    let f = g.G.Gpu.state c.tell.new.gpu in
    let t = c.args.self.now in
    let u = c.acquire.new.self in
    let v = c.tell.new.self in
    let a = c.in_default.ensures in
    let p = c.in_ok-changed.ensures in
    done-roots c.args.frames.now d e f t u (record v { touched = u.touched }) v c.args.pins.now c.acquire.new.pins (c.args.root ∷ roots_of t) c.in_ok-changed.changed.guarded.items c.in_ok-changed.changed.unguarded.items 0 0
    a.keeps a.holds (rests-added c.args.frames.now d e t u c.args.pins.now c.acquire.new.pins c.args.root c.requires.serves c.requires.new a.grown a.keeps) p.telling p.holds refl refl refl p.untouched

pub returns-clause-changed : goal.returns-clause-changed
returns-clause-changed g c =
    let d = g.G.Gpu.state c.args.gpu.now in
    let e = g.G.Gpu.state c.acquire.new.gpu in
    let f = g.G.Gpu.state c.tell.new.gpu in
    let t = c.args.self.now in
    let u = c.acquire.new.self in
    let v = c.tell.new.self in
    let a = c.in_default.ensures in
    let p = c.in_ok-changed.ensures in
    done-tells c.args.frames.now d e f t u (record v { touched = u.touched }) v c.args.pins.now c.acquire.new.pins (c.args.root ∷ roots_of t) c.in_ok-changed.changed.guarded.items c.in_ok-changed.changed.unguarded.items 0 0
    a.keeps a.holds (rests-added c.args.frames.now d e t u c.args.pins.now c.acquire.new.pins c.args.root c.requires.serves c.requires.new a.grown a.keeps) p.telling p.holds refl refl refl p.untouched

pub returns-clause-good : goal.returns-clause-good
returns-clause-good g c =
    let d = g.G.Gpu.state c.args.gpu.now in
    let e = g.G.Gpu.state c.acquire.new.gpu in
    let f = g.G.Gpu.state c.tell.new.gpu in
    let placed = c.args.frames.now in
    let t = c.args.self.now in
    let u = c.acquire.new.self in
    let v = c.tell.new.self in
    let a = c.in_default.ensures in
    let p = c.in_ok-changed.ensures in
    refused-not (memory_in d placed) (length placed.pages) (length-map placed.pages d.words) (roots_of t) c.args.root c.requires.frame
    (ap (has_bad_entry (memory_in d placed)) (sym (returns-clause-roots g c))
    ∙ done-good placed d e f t u (record v { touched = u.touched }) v c.args.pins.now c.acquire.new.pins (c.args.root ∷ roots_of t) c.in_ok-changed.changed.guarded.items c.in_ok-changed.changed.unguarded.items 0 0
    a.keeps a.holds (rests-added placed d e t u c.args.pins.now c.acquire.new.pins c.args.root c.requires.serves c.requires.new a.grown a.keeps) p.telling p.holds refl refl refl p.untouched)

pub returns-clause-stay : goal.returns-clause-stay
returns-clause-stay g c k f q is = ap (λ (n : NodeMap). pages_in n k f) c.in_ok-changed.ensures.telling.nodes ∙ c.in_default.ensures.grown.kept.pages k f q is
