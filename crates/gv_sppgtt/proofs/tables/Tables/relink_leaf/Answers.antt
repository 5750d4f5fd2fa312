use Rattle.std.proofs.Common.{ℕ, length, get_or, sym, ap, ◌∙◌, refl}
use Rattle.gv_entry.specs.declared.process.Process.TheVariants.{Absent, Page}
use Rattle.gv_guest.specs.Placed.{memory_in}
use Rattle.gv_shape.specs.Counts.{one_if, names_node}
use Rattle.gv_sppgtt.specs.Sound.{pages_in, parents_in, reading_at}
use Rattle.gv_sppgtt.specs.State.{sketch_of, readings_of}
use Rattle.gv_sppgtt.proofs.Relinked.{acquired-none, released-none, rests-relinked}
use Rattle.gv_sppgtt.proofs.Words.{leaf-names}
use Rattle.gv_sppgtt.proofs.tables.Tables.relink_leaf.Goals as goal

pub returns-in_ok-replace_leaf-in-Absent-clause-rests : goal.returns-in_ok-replace_leaf-in-Absent-clause-rests
returns-in_ok-replace_leaf-in-Absent-clause-rests g c roots rests =
    let d = g.G.Gpu.state c.args.gpu.now in
    let e = g.G.Gpu.state c.replace_leaf.new.gpu in
    let t = c.args.self.now in
    let u = c.replace_leaf.new.self in
    let n = length c.args.frames.now.pages in
    let p = c.in_ok-replace_leaf-in-Absent.ensures in
    let old = readings_of d t 1 c.args.frame c.args.index in
    let none = λ (k f : ℕ). ap (λ o. one_if (names_node k f (reading_at d.words t.owners.items 1 o c.args.index))) c.requires.node ∙ leaf-names t.owners.items (get_or (d.words c.args.page) c.args.index 0) k f in
    rests-relinked n (memory_in d c.args.frames.now) roots 1 c.args.frame c.args.index c.args.page Absent old
    (sketch_of d t) (sketch_of d t) (sketch_of e u) (sketch_of e u) c.requires.frame c.requires.within c.requires.node (sym c.in-Absent.ensures) refl
    (acquired-none n (memory_in d c.args.frames.now) 1 Absent (sketch_of d t) (λ k f. refl)) (ap pages_in p.nodes) (ap parents_in p.nodes) p.enters
    (released-none n 1 old (sketch_of e u) none) rests

pub returns-in_ok-replace_leaf-in-Page-clause-rests : goal.returns-in_ok-replace_leaf-in-Page-clause-rests
returns-in_ok-replace_leaf-in-Page-clause-rests g c roots rests =
    let d = g.G.Gpu.state c.args.gpu.now in
    let e = g.G.Gpu.state c.replace_leaf-in-Page.new.gpu in
    let t = c.args.self.now in
    let u = c.replace_leaf-in-Page.new.self in
    let n = length c.args.frames.now.pages in
    let p = c.in_ok-replace_leaf-in-Page.ensures in
    let old = readings_of d t 1 c.args.frame c.args.index in
    let none = λ (k f : ℕ). ap (λ o. one_if (names_node k f (reading_at d.words t.owners.items 1 o c.args.index))) c.requires.node ∙ leaf-names t.owners.items (get_or (d.words c.args.page) c.args.index 0) k f in
    rests-relinked n (memory_in d c.args.frames.now) roots 1 c.args.frame c.args.index c.args.page (Page c.in-Page.to c.in-Page.writable) old
    (sketch_of d t) (sketch_of d t) (sketch_of e u) (sketch_of e u) c.requires.frame c.requires.within c.requires.node (sym c.in-Page.ensures) refl
    (acquired-none n (memory_in d c.args.frames.now) 1 (Page c.in-Page.to c.in-Page.writable) (sketch_of d t) (λ k f. refl)) (ap pages_in p.nodes) (ap parents_in p.nodes) p.enters
    (released-none n 1 old (sketch_of e u) none) rests
