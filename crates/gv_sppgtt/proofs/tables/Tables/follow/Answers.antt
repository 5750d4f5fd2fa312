use Rattle.std.proofs.Common.{ℕ, Result, Err, is_some, ◌≡◌, refl, sym, ap, ◌∙◌, arith}
use Rattle.gv_gpu.specs.Device.{Device}
use Rattle.gv_nodes.specs.NodeMap.{NodeMap}
use Rattle.gv_sppgtt.specs.Sound.{flag, pages_in}
use Rattle.gv_sppgtt.specs.State.{pages_of}
use Rattle.gv_sppgtt.proofs.Kept.{is_table-same}
use Rattle.gv_guest.specs.Placed.{memory_in}
use Rattle.gv_entry.specs.Tables.{has_bad_entry}
use Rattle.gv_sppgtt.specs.Serving.{roots_of}
use Rattle.gv_sppgtt.specs.declared.tables.TableFault.{TableFault}
use Rattle.gv_sppgtt.specs.declared.tables.TableFault.TheVariants.{BadEntry}
use Rattle.gv_sppgtt.specs.declared.changed.Changed.{Changed}
use Rattle.gv_sppgtt.proofs.Serving.{roots-self}
use Rattle.gv_sppgtt.proofs.Served.{rests-word, done-serves, done-roots, done-tells, done-good}
use Rattle.gv_sppgtt.proofs.Changes.{changes-kept, changes_trans}
use Rattle.gv_sppgtt.proofs.tables.Tables.follow.Goals as goal

same_fault : (x y : TableFault) → ◌≡◌ {A = Result Changed TableFault} (Err x) (Err y) → x ≡ y
same_fault x y e = cc

pub update-requires-clause-rests : goal.update-requires-clause-rests
update-requires-clause-rests g c = (roots_of c.args.self.now, rests-word c.args.frames.now (g.G.Gpu.state c.args.gpu.now) c.args.self.now c.args.pins.now c.requires.serves.0 c.args.frame c.args.index c.requires.serves.1.0 c.requires.serves.1.1)

pub returns-in-Err-clause-bad : goal.returns-in-Err-clause-bad
returns-in-Err-clause-bad g c is = c.in-Err.ensures.bad (ap (λ e. Err e) (same_fault c.in-Err.fault BadEntry is)) (roots_of c.args.self.now) (rests-word c.args.frames.now (g.G.Gpu.state c.args.gpu.now) c.args.self.now c.args.pins.now c.requires.serves.0 c.args.frame c.args.index c.requires.serves.1.0 c.requires.serves.1.1)

pub returns-clause-serves : goal.returns-clause-serves
returns-clause-serves g c =
    let d = g.G.Gpu.state c.args.gpu.now in
    let e = g.G.Gpu.state c.update.new.gpu in
    let f = g.G.Gpu.state c.tell.new.gpu in
    let placed = c.args.frames.now in
    let t = c.args.self.now in
    let u = c.update.new.self in
    let v = c.tell.new.self in
    let p = c.in_ok-changed.ensures in
    let a = c.in_default.ensures in
    done-serves placed d e f t u (record v { touched = u.touched }) v c.args.pins.now c.update.new.pins (roots_of t) c.in_ok-changed.changed.guarded.items c.in_ok-changed.changed.unguarded.items c.args.frame c.args.index
    a.keeps a.holds (a.settled (roots_of t) (rests-word c.args.frames.now (g.G.Gpu.state c.args.gpu.now) c.args.self.now c.args.pins.now c.requires.serves.0 c.args.frame c.args.index c.requires.serves.1.0 c.requires.serves.1.1)) p.telling p.holds refl refl refl p.untouched

pub returns-clause-roots : goal.returns-clause-roots
returns-clause-roots g c =
    let d = g.G.Gpu.state c.args.gpu.now in
    let e = g.G.Gpu.state c.update.new.gpu in
    let f = g.G.Gpu.state c.tell.new.gpu in
    let placed = c.args.frames.now in
    let t = c.args.self.now in
    let u = c.update.new.self in
    let v = c.tell.new.self in
    let p = c.in_ok-changed.ensures in
    let a = c.in_default.ensures in
    done-roots placed d e f t u (record v { touched = u.touched }) v c.args.pins.now c.update.new.pins (roots_of t) c.in_ok-changed.changed.guarded.items c.in_ok-changed.changed.unguarded.items c.args.frame c.args.index
    a.keeps a.holds (a.settled (roots_of t) (rests-word c.args.frames.now (g.G.Gpu.state c.args.gpu.now) c.args.self.now c.args.pins.now c.requires.serves.0 c.args.frame c.args.index c.requires.serves.1.0 c.requires.serves.1.1)) p.telling p.holds refl refl refl p.untouched
    ∙ roots-self d placed t c.args.pins.now c.requires.serves.1.0.holds

pub returns-clause-changed : goal.returns-clause-changed
returns-clause-changed g c =
    let d = g.G.Gpu.state c.args.gpu.now in
    let e = g.G.Gpu.state c.update.new.gpu in
    let f = g.G.Gpu.state c.tell.new.gpu in
    let placed = c.args.frames.now in
    let t = c.args.self.now in
    let u = c.update.new.self in
    let v = c.tell.new.self in
    let p = c.in_ok-changed.ensures in
    let a = c.in_default.ensures in
    done-tells placed d e f t u (record v { touched = u.touched }) v c.args.pins.now c.update.new.pins (roots_of t) c.in_ok-changed.changed.guarded.items c.in_ok-changed.changed.unguarded.items c.args.frame c.args.index
    a.keeps a.holds (a.settled (roots_of t) (rests-word c.args.frames.now (g.G.Gpu.state c.args.gpu.now) c.args.self.now c.args.pins.now c.requires.serves.0 c.args.frame c.args.index c.requires.serves.1.0 c.requires.serves.1.1)) p.telling p.holds refl refl refl p.untouched

pub returns-clause-good : goal.returns-clause-good
returns-clause-good g c =
    let d = g.G.Gpu.state c.args.gpu.now in
    let e = g.G.Gpu.state c.update.new.gpu in
    let f = g.G.Gpu.state c.tell.new.gpu in
    let placed = c.args.frames.now in
    let t = c.args.self.now in
    let u = c.update.new.self in
    let v = c.tell.new.self in
    let p = c.in_ok-changed.ensures in
    let a = c.in_default.ensures in
    ap (has_bad_entry (memory_in d placed)) (sym (returns-clause-roots g c)) ∙ done-good placed d e f t u (record v { touched = u.touched }) v c.args.pins.now c.update.new.pins (roots_of t) c.in_ok-changed.changed.guarded.items c.in_ok-changed.changed.unguarded.items c.args.frame c.args.index
    a.keeps a.holds (a.settled (roots_of t) (rests-word c.args.frames.now (g.G.Gpu.state c.args.gpu.now) c.args.self.now c.args.pins.now c.requires.serves.0 c.args.frame c.args.index c.requires.serves.1.0 c.requires.serves.1.1)) p.telling p.holds refl refl refl p.untouched

pub returns-clause-shadow_roots : goal.returns-clause-shadow_roots
returns-clause-shadow_roots g c root = ap (λ (n : NodeMap). pages_in n 4 root) c.in_ok-changed.ensures.telling.nodes ∙ c.in_default.ensures.roots root

pub returns-clause-pokes : goal.returns-clause-pokes
returns-clause-pokes g c same =
    let t = c.args.self.now in
    let u = c.update.new.self in
    let v = c.tell.new.self in
    let a = c.in_default.ensures in
    let p = c.in_ok-changed.ensures in
    let s = c.requires.serves.1.0 in
    let pages = λ (k f : ℕ). ap (λ (n : NodeMap). pages_in n k f) p.telling.nodes in
    let made = a.pokes (λ k f. ap is_some (sym (pages k f)) ∙ same k f) in
    let idle = p.idle (λ f. ap (λ z. flag z.items f) a.keeps.told ∙ s.told f ∙ sym (is_table-same (pages_of u) (pages_of t) f (λ k. made.1 k f))) in
    let few = made.0 in
    let still = ap (λ (x : Device). x.pokes) idle in
    (omega arith, λ k f. pages k f ∙ made.1 k f)

pub returns-in-Err-clause-changes : goal.returns-in-Err-clause-changes
returns-in-Err-clause-changes g c = changes-kept c.args.frames.now (g.G.Gpu.state c.args.gpu.now) (g.G.Gpu.state c.update.new.gpu) c.args.self.now c.update.new.self c.args.pins.now c.update.new.pins c.in-Err.ensures.keeps

pub returns-in_err-changed-clause-changes : goal.returns-in_err-changed-clause-changes
returns-in_err-changed-clause-changes g c =
    let d = g.G.Gpu.state c.args.gpu.now in
    let e = g.G.Gpu.state c.update.new.gpu in
    let f = g.G.Gpu.state c.tell.new.gpu in
    changes_trans c.args.frames.now d e f c.args.self.now c.update.new.self c.tell.new.self c.args.pins.now c.update.new.pins c.update.new.pins
    (changes-kept c.args.frames.now d e c.args.self.now c.update.new.self c.args.pins.now c.update.new.pins c.in_default.ensures.keeps) c.in_err-changed.ensures.changes

pub returns-clause-changes : goal.returns-clause-changes
returns-clause-changes g c =
    let d = g.G.Gpu.state c.args.gpu.now in
    let e = g.G.Gpu.state c.update.new.gpu in
    let f = g.G.Gpu.state c.tell.new.gpu in
    changes_trans c.args.frames.now d e f c.args.self.now c.update.new.self c.tell.new.self c.args.pins.now c.update.new.pins c.update.new.pins
    (changes-kept c.args.frames.now d e c.args.self.now c.update.new.self c.args.pins.now c.update.new.pins c.in_default.ensures.keeps) c.in_ok-changed.ensures.changes
