use Rattle.std.proofs.Common.{ℕ, ◌≡◌, ◌≤◌, Option, None, Some, IfSome, length, sym, ap, ◌∙◌, refl, arith}
use Rattle.gv_entry.specs.declared.process.Process.{Process}
use Rattle.gv_gpu.specs.Device.{Device, counted}
use Rattle.gv_sppgtt.specs.declared.tables.Tables.{Tables}
use Rattle.gv_sppgtt.proofs.Words.{named-there}
use Rattle.gv_entry.specs.declared.process.Process.TheVariants.{Absent}
use Rattle.gv_guest.specs.Placed.{memory_in}
use Rattle.gv_shape.specs.Counts.{naming, above}
use Rattle.gv_sppgtt.specs.Sound.{child_entry, IsChild}
use Rattle.gv_sppgtt.specs.State.{pages_of, parents_of, readings_of, sketch_of}
use Rattle.gv_sppgtt.proofs.Relinked.{released-table, released-none, rests-relinked, acquired-above}
use Rattle.gv_sppgtt.proofs.Kept.{keeps_trans}
use Rattle.gv_sppgtt.proofs.Steady.{keep-places}
use Rattle.gv_sppgtt.proofs.tables.Tables.relink.Goals as goal
use Rattle.gv_shape.specs.Shadow.{Pages}
use Rattle.gv_shape.proofs.Levels.{rank-below}
use Rattle.gv_sppgtt.specs.declared.tables.Child.{Child}

pub child-old-requires-clause-node : goal.child-old-requires-clause-node
child-old-requires-clause-node g c = c.in-Ok.ensures.acquired.kept.pages c.args.level c.args.frame c.args.page c.requires.node

pub replace-requires-clause-node : goal.replace-requires-clause-node
replace-requires-clause-node g c = c.in-Ok.ensures.acquired.kept.pages c.args.level c.args.frame c.args.page c.requires.node

pub returns-in_default-clause-rests : goal.returns-in_default-clause-rests
returns-in_default-clause-rests g c roots rests =
    let d = g.G.Gpu.state c.args.gpu.now in
    let e = g.G.Gpu.state c.acquire_entry.new.gpu in
    let f = g.G.Gpu.state c.replace.new.gpu in
    let n = length c.args.frames.now.pages in
    let a = c.in-Ok.ensures in
    let p = c.replace.ensures in
    let was : readings_of d c.args.self.now c.args.level c.args.frame c.args.index ≡ Absent = sym (a.acquired.same c.args.level c.args.frame c.args.page c.args.index c.requires.node c.requires.within) ∙ c.in_default.ensures.none in
    rests-relinked n (memory_in d c.args.frames.now) roots c.args.level c.args.frame c.args.index c.args.page (child_entry c.in-Ok.child) Absent
    (sketch_of d c.args.self.now) (sketch_of e c.acquire_entry.new.self) (sketch_of f c.replace.new.self) (sketch_of f c.replace.new.self)
    c.requires.frame c.requires.within c.requires.node a.entry was a.acquired (ap pages_of p.same) (ap parents_of p.same) p.enters
    (released-none n c.args.level Absent (sketch_of f c.replace.new.self) (λ k h. refl)) rests

pub returns-clause-rests : goal.returns-clause-rests
returns-clause-rests g c roots rests =
    let d = g.G.Gpu.state c.args.gpu.now in
    let e = g.G.Gpu.state c.acquire_entry.new.gpu in
    let f = g.G.Gpu.state c.replace.new.gpu in
    let z = g.G.Gpu.state c.release.new.gpu in
    let n = length c.args.frames.now.pages in
    let a = c.in-Ok.ensures in
    let p = c.replace.ensures in
    let was : readings_of d c.args.self.now c.args.level c.args.frame c.args.index ≡ naming c.in-Some.lower c.in-Some.old = sym (a.acquired.same c.args.level c.args.frame c.args.page c.args.index c.requires.node c.requires.within) ∙ c.in-Some.ensures.some in
    rests-relinked n (memory_in d c.args.frames.now) roots c.args.level c.args.frame c.args.index c.args.page (child_entry c.in-Ok.child) (naming c.in-Some.lower c.in-Some.old)
    (sketch_of d c.args.self.now) (sketch_of e c.acquire_entry.new.self) (sketch_of f c.replace.new.self) (sketch_of z c.release.new.self)
    c.requires.frame c.requires.within c.requires.node a.entry was a.acquired (ap pages_of p.same) (ap parents_of p.same) p.enters
    (released-table n c.args.level c.in-Some.old c.in-Some.lower (sketch_of f c.replace.new.self) (sketch_of z c.release.new.self) c.in-Some.ensures.below c.release.ensures.dropped) rests

pub returns-in_default-clause-above : goal.returns-in_default-clause-above
returns-in_default-clause-above g c k f up =
    let d = g.G.Gpu.state c.args.gpu.now in
    let e = g.G.Gpu.state c.acquire_entry.new.gpu in
    ap (λ (x : Tables). pages_of x k f) c.replace.ensures.same
    ∙ acquired-above (length c.args.frames.now.pages) (memory_in d c.args.frames.now) c.args.level (child_entry c.in-Ok.child) (sketch_of d c.args.self.now) (sketch_of e c.acquire_entry.new.self) c.in-Ok.ensures.acquired k f up

pub returns-clause-above : goal.returns-clause-above
returns-clause-above g c k f up =
    let d = g.G.Gpu.state c.args.gpu.now in
    let e = g.G.Gpu.state c.acquire_entry.new.gpu in
    let below = c.in-Some.ensures.below in
    let near = rank-below c.in-Some.lower c.args.level below.low below.above below.high below.four in
    c.release.ensures.dropped.above k f (omega arith) ∙ ap (λ (x : Tables). pages_of x k f) c.replace.ensures.same
    ∙ acquired-above (length c.args.frames.now.pages) (memory_in d c.args.frames.now) c.args.level (child_entry c.in-Ok.child) (sketch_of d c.args.self.now) (sketch_of e c.acquire_entry.new.self) c.in-Ok.ensures.acquired k f up

-- the child that is named at the end was there at the start
child_there : (level : ℕ) (child : Option Child) (pages z a : Pages) (reading : Process) → reading ≡ child_entry child → IsChild pages level child → ((h lower : ℕ) → reading ≡ naming lower h → above lower ≡ level → 1 ≤ lower → lower ≤ 6 → (p : ℕ) × (z lower h ≡ Some p)) → ((k f : ℕ) → above k ≡ level → z k f ≡ a k f) → IfSome child (λ to. (p : ℕ) × (a to.level to.frame ≡ Some p))
child_there level None pages z a reading is form there same = tt
child_there level (Some to) pages z a reading is form there same = let at = there to.frame to.level is form.1.0 form.1.1.0 form.1.1.1 in (at.0, sym (same to.level to.frame form.1.0) ∙ at.1)

pub returns-clause-pokes : goal.returns-clause-pokes
returns-clause-pokes g c same =
    let d = g.G.Gpu.state c.args.gpu.now in
    let e = g.G.Gpu.state c.acquire_entry.new.gpu in
    let f = g.G.Gpu.state c.replace.new.gpu in
    let z = g.G.Gpu.state c.release.new.gpu in
    let t = c.args.self.now in
    let u = c.release.new.self in
    let level = c.args.level in
    let a = c.in-Ok.ensures in
    let below = c.in-Some.ensures.below in
    let node = returns-clause-above g c level c.args.frame (omega arith) ∙ c.requires.node in
    let reading : readings_of z u level c.args.frame c.args.index ≡ child_entry c.in-Ok.child = c.release.ensures.dropped.same level c.args.frame c.args.page c.args.index node c.requires.within ∙ c.replace.ensures.enters.here in
    let there = child_there level c.in-Ok.child (pages_of c.acquire_entry.new.self) (pages_of u) (pages_of t) (readings_of z u level c.args.frame c.args.index) reading a.there
    (λ h lower is up one six. named-there z c.args.frames.now u.nodes u.chains u.owners.items u.told.items c.release.ensures.holds.sound level c.args.frame c.args.page c.args.index h lower node c.requires.within is up one six) same in
    let acquired = a.idle there in
    let was : readings_of d t level c.args.frame c.args.index ≡ naming c.in-Some.lower c.in-Some.old = sym (a.acquired.same level c.args.frame c.args.page c.args.index c.requires.node c.requires.within) ∙ c.in-Some.ensures.some in
    let old = named-there d c.args.frames.now t.nodes t.chains t.owners.items t.told.items c.requires.holds.sound level c.args.frame c.args.page c.args.index c.in-Some.old c.in-Some.lower c.requires.node c.requires.within was below.above below.low below.six in
    let released = c.release.ensures.idle old.0 (same c.in-Some.lower c.in-Some.old below.above ∙ old.1) in (
      ap (λ (x : Device). x.pokes) released.0 ∙ c.replace.ensures.pokes ∙ ap (λ (x : Device). counted x.pokes) acquired.0,
      λ k q. released.1 k q ∙ ap (λ (x : Tables). pages_of x k q) c.replace.ensures.same ∙ acquired.1 k q,
    )

pub release-requires-clause-held : goal.release-requires-clause-held
release-requires-clause-held g c =
    let below = c.in-Some.ensures.below in
    c.replace.ensures.held c.in-Some.old c.in-Some.lower c.in-Some.ensures.some below.above below.low below.six

pub returns-in_default-clause-keeps : goal.returns-in_default-clause-keeps
returns-in_default-clause-keeps g c =
    let d = g.G.Gpu.state c.args.gpu.now in
    let e = g.G.Gpu.state c.acquire_entry.new.gpu in
    let f = g.G.Gpu.state c.replace.new.gpu in
    keeps_trans c.args.frames.now d e f c.args.self.now c.acquire_entry.new.self c.replace.new.self c.args.pins.now c.acquire_entry.new.pins c.acquire_entry.new.pins c.in-Ok.ensures.keeps c.replace.ensures.keeps

pub returns-clause-keeps : goal.returns-clause-keeps
returns-clause-keeps g c =
    let d = g.G.Gpu.state c.args.gpu.now in
    let e = g.G.Gpu.state c.acquire_entry.new.gpu in
    let f = g.G.Gpu.state c.replace.new.gpu in
    let z = g.G.Gpu.state c.release.new.gpu in
    keeps_trans c.args.frames.now d f z c.args.self.now c.replace.new.self c.release.new.self c.args.pins.now c.acquire_entry.new.pins c.release.new.pins
    (keeps_trans c.args.frames.now d e f c.args.self.now c.acquire_entry.new.self c.replace.new.self c.args.pins.now c.acquire_entry.new.pins c.acquire_entry.new.pins c.in-Ok.ensures.keeps c.replace.ensures.keeps)
    c.release.ensures.keeps

pub returns-in_default-clause-pokes : goal.returns-in_default-clause-pokes
returns-in_default-clause-pokes g c same =
    let d = g.G.Gpu.state c.args.gpu.now in
    let f = g.G.Gpu.state c.replace.new.gpu in
    let t = c.args.self.now in
    let u = c.replace.new.self in
    let level = c.args.level in
    let a = c.in-Ok.ensures in
    let node = returns-in_default-clause-above g c level c.args.frame (omega arith) ∙ c.requires.node in
    let reading : readings_of f u level c.args.frame c.args.index ≡ child_entry c.in-Ok.child = c.replace.ensures.enters.here in
    let there = child_there level c.in-Ok.child (pages_of c.acquire_entry.new.self) (pages_of u) (pages_of t) (readings_of f u level c.args.frame c.args.index) reading a.there
    (λ h lower is up one six. named-there f c.args.frames.now u.nodes u.chains u.owners.items u.told.items c.replace.ensures.holds.sound level c.args.frame c.args.page c.args.index h lower node c.requires.within is up one six) same in
    let acquired = a.idle there in (
      c.replace.ensures.pokes ∙ ap (λ (x : Device). counted x.pokes) acquired.0,
      λ k q. ap (λ (x : Tables). pages_of x k q) c.replace.ensures.same ∙ acquired.1 k q,
    )

pub returns-in_default-clause-stay : goal.returns-in_default-clause-stay
returns-in_default-clause-stay g c =
    keep-places (pages_of c.args.self.now) (pages_of c.acquire_entry.new.self) (pages_of c.replace.new.self) c.in-Ok.ensures.acquired.kept.pages
    (λ k f p is. ap (λ (x : Tables). pages_of x k f) (sym c.replace.ensures.same) ∙ is)

pub returns-clause-stay : goal.returns-clause-stay
returns-clause-stay g c =
    keep-places (pages_of c.args.self.now) (pages_of c.acquire_entry.new.self) (pages_of c.release.new.self) c.in-Ok.ensures.acquired.kept.pages
    (λ k f p is. ap (λ (x : Tables). pages_of x k f) (sym c.replace.ensures.same) ∙ c.release.ensures.dropped.within k f p is)
