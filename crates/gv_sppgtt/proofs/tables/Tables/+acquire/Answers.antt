use Rattle.gv_sppgtt.specs.declared.tables.TableFault.{TableFault}
use Rattle.gv_sppgtt.specs.declared.tables.TableFault.TheVariants.{BadEntry}
use Rattle.std.proofs.Common.{Result, Err, ℕ, ◌≡◌, ◌-◌, ◌<◌, ◌≤◌, None, Some, Option, length, get_or, sym, ap, ◌∙◌, subst, refl, arith, true}
use Rattle.gv_types.specs.Memory.{Memory}
use Rattle.gv_entry.specs.declared.process.Process.TheVariants.{Table}
use Rattle.gv_entry.specs.Tables.{level_entry, frame_words}
use Rattle.gv_guest.specs.Placed.{memory_in}
use Rattle.gv_nodes.specs.declared.nodes.Node.{Node}
use Rattle.gv_nodes.specs.NodeOf.{node_of}
use Rattle.gv_shape.specs.Counts.{above, names_node, naming}
use Rattle.gv_sppgtt.specs.Sound.{page_of_node, parents_of_node, reading_at}
use Rattle.gv_sppgtt.specs.State.{pages_of, parents_of, readings_of, sketch_of}
use Rattle.gv_sppgtt.specs.Grown.{Filled, Made}
use Rattle.gv_sppgtt.specs.Holding.{Keeps}
use Rattle.gv_sppgtt.specs.declared.tables.Tables.{Tables}
use Rattle.gv_sppgtt.proofs.PutLeaf.{uses-most}
use Rattle.gv_sppgtt.proofs.Kept.{keeps-none, keeps_trans}
use Rattle.gv_sppgtt.proofs.Held.{keeps-held, growing-held, holds-held}
use Rattle.gv_sppgtt.proofs.Growing.{growing-made, growing-filled, filled-table, room-grown}
use Rattle.gv_sppgtt.proofs.BadEntries.{bad-here, live-child, frame-words, table-is}
use Rattle.gv_sppgtt.proofs.tables.Tables.+acquire.Goals as goal
use Rattle.gv_shape.specs.Shadow.{wanted, is_live, has_leaves}
use Rattle.std.proofs.lemmas.Bool.Decides.{nat_tests}
use Rattle.gv_shape.proofs.Levels.{wanted-low, naming-low, above-low}

no_parents : (o : Option Node) → page_of_node o ≡ None → parents_of_node o ≡ 0
no_parents None e = refl
no_parents (Some n) e = cc

pub acquire-hold-requires-clause-room : goal.acquire-hold-requires-clause-room
acquire-hold-requires-clause-room g t c =
    let n = length c.args.frames.now.pages in
    let r = readings_of (g.G.Gpu.state c.args.gpu.now) c.args.self.now in
    let m = c.requires.modest c.args.level c.args.frame c.requires.low (omega arith) in
    let u = uses-most n r (above c.args.level) (names_node c.args.level c.args.frame) in
    let few = c.requires.holds.few in
    omega arith

pub acquire-returns-in-Some-clause-grown : goal.acquire-returns-in-Some-clause-grown
acquire-returns-in-Some-clause-grown g t c =
    let d = g.G.Gpu.state c.args.gpu.now in
    let s = c.in-Some.ensures in
    growing-held d c.args.frames.now c.args.self.now c.hold.new.self c.args.pins.now c.args.level c.args.frame c.in-Some.page c.requires.holds s.there s.pages s.here s.others s.nodes s.frames s.owners s.chains s.told s.guest (memory_in d c.args.frames.now)

pub acquire-returns-in-Some-clause-holds : goal.acquire-returns-in-Some-clause-holds
acquire-returns-in-Some-clause-holds g t c =
    let d = g.G.Gpu.state c.args.gpu.now in
    let s = c.in-Some.ensures in
    holds-held d c.args.frames.now c.args.self.now c.hold.new.self c.args.pins.now c.args.level c.args.frame c.in-Some.page c.requires.holds s.there s.pages s.here s.others s.nodes s.frames s.owners s.chains s.told s.guest

pub acquire-returns-in-Some-clause-keeps : goal.acquire-returns-in-Some-clause-keeps
acquire-returns-in-Some-clause-keeps g t c =
    let d = g.G.Gpu.state c.args.gpu.now in
    let s = c.in-Some.ensures in
    keeps-held d c.args.frames.now c.args.self.now c.hold.new.self c.args.pins.now c.args.level c.args.frame c.in-Some.page c.requires.holds s.there s.pages s.here s.others s.nodes s.frames s.owners s.chains s.told s.guest s.touched

pub acquire-loop-index-init : goal.acquire-loop-index-init
acquire-loop-index-init g t c =
    let d = g.G.Gpu.state c.args.gpu.now in
    let e = g.G.Gpu.state c.make.new.gpu in
    let old = c.args.self.now in
    let u = c.make.new.self in
    let none = c.in_default.ensures.none in
    let p = c.in_ok-page.ensures in
    let made = subst (λ (x : Tables). Made c.args.level c.args.frame c.in_ok-page.page (sketch_of d x) (sketch_of e u)) none.1 p.made in
    record {
      holds = p.holds;
      keeps = subst (λ (x : Tables). Keeps c.args.frames.now d e x u c.args.pins.now c.args.pins.now) none.1 p.keeps;
      there = made.here;
      spare = λ leafy. let s = p.spare leafy in omega arith;
      grown = growing-made (length c.args.frames.now.pages) (memory_in d c.args.frames.now) c.args.level c.args.frame c.in_ok-page.page (sketch_of d old) (sketch_of e u)
          none.0 (no_parents (node_of old.nodes c.args.level c.args.frame) none.0) (λ i. ap (λ o. reading_at d.words old.owners.items c.args.level o i) none.0) made;
    }

pub acquire-loop-index-preserved : goal.acquire-loop-index-preserved
acquire-loop-index-preserved g t c =
    let d = g.G.Gpu.state c.args.gpu.now in
    let e = g.G.Gpu.state c.loop-index.gpu in
    let f = g.G.Gpu.state c.fill.new.gpu in
    let old = c.args.self.now in
    let u = c.loop-index.self in
    let v = c.fill.new.self in
    let placed = c.args.frames.now in
    let n = length placed.pages in
    let was = c.loop-index.invariant in
    let p = c.in_ok-fill.ensures in
    let none = c.in_default.ensures.none in
    let filled = subst (λ (m : Memory). Filled n m c.args.level c.args.frame c.loop-index.index (sketch_of e u) (sketch_of f v)) was.keeps.memory p.filled in
    record {
      holds = p.holds;
      keeps = keeps_trans placed d e f old u v c.args.pins.now c.loop-index.pins c.fill.new.pins was.keeps p.keeps;
      spare = λ leafy. let a = was.spare leafy in let b = p.spare leafy in omega arith;
      there = filled.kept.pages c.args.level c.args.frame c.in_ok-page.page was.there;
      grown = growing-filled n (memory_in d placed) c.args.level c.args.frame c.loop-index.index (sketch_of d old) (sketch_of e u) (sketch_of f v) c.loop-index-test.true none.0 was.grown filled;
    }

pub fill-fill_leaf-requires-clause-spare : goal.fill-fill_leaf-requires-clause-spare
fill-fill_leaf-requires-clause-spare g t c = c.requires.spare c.in-Leaf.ensures.form.0

-- a table of level 2 to 4 has no leaves
no_leaves : (level : ℕ) → 2 ≤ level → level ≤ 4 → has_leaves level ≡ true → ⊥
no_leaves level high few leafy = grind (arith, nat_tests)

pub fill-returns-in-Ok-clause-spare : goal.fill-returns-in-Ok-clause-spare
fill-returns-in-Ok-clause-spare g t c leafy = let below = c.in-Node.ensures.form in absurd (no_leaves c.args.level below.high below.four leafy)

same_fault : (x y : TableFault) → ◌≡◌ {A = Result (Unit {0}) TableFault} (Err x) (Err y) → x ≡ y
same_fault x y e = cc

module _ (m : Memory) (level frame index h lower : ℕ) (below : lower < 5) (is : naming lower h ≡ wanted m level frame index) (few : level ≤ 4) where
  names_table : level_entry m level frame index ≡ Table h
  names_table = sym (wanted-low m level frame index (omega arith)) ∙ sym is ∙ naming-low lower h below

pub fill-returns-in-Err-clause-bad : goal.fill-returns-in-Err-clause-bad
fill-returns-in-Err-clause-bad g t c is roots live =
    let d = g.G.Gpu.state c.args.gpu.now in
    let placed = c.args.frames.now in
    let m = memory_in d placed in
    let words = frame-words d placed c.args.frame c.requires.holds.stands c.requires.frame in
    let below = c.in-Node.ensures.form in
    let fault = ap (λ e. Err e) (same_fault c.in-Err.fault BadEntry is) in
    let low : c.in-Node.lower < 5 = (let l = c.in-Err.ensures.good fault in omega arith) in
    let entry = names_table m c.args.level c.args.frame c.args.index c.in-Node.to c.in-Node.lower low c.in-Node.ensures.is below.four in
    let table = table-is (get_or (frame_words m c.args.frame) c.args.index 0) c.args.level (length m) c.in-Node.to c.requires.low entry in
    let up = above-low c.in-Node.lower low in
    let at : c.args.level - 1 ≡ c.in-Node.lower = (let x = below.above in omega arith) in
    c.in-Err.ensures.bad fault roots
    (subst (λ l. is_live m roots l c.in-Node.to ≡ true) at (live-child m roots c.args.level c.args.frame c.args.index c.requires.low below.four live (subst (λ n. c.args.index < n) (sym words) c.requires.within) c.in-Node.to table.0 table.1 entry))

pub fill-returns-in-Refused-clause-bad : goal.fill-returns-in-Refused-clause-bad
fill-returns-in-Refused-clause-bad g t c is roots live =
    let d = g.G.Gpu.state c.args.gpu.now in
    let placed = c.args.frames.now in
    let m = memory_in d placed in
    let words = frame-words d placed c.args.frame c.requires.holds.stands c.requires.frame in
    let few = c.in-Refused.ensures.form in
    bad-here m roots c.args.level c.args.frame c.args.index c.requires.low few live (subst (λ n. c.args.index < n) (sym words) c.requires.within)
    (sym (wanted-low m c.args.level c.args.frame c.args.index (omega arith)) ∙ sym c.in-Refused.ensures.is)

pub fill-fill_table-requires-clause-node : goal.fill-fill_table-requires-clause-node
fill-fill_table-requires-clause-node g t c = c.in-Ok.ensures.grown.kept.pages c.args.level c.args.frame c.args.page c.requires.node

pub fill-fill_table-requires-clause-room : goal.fill-fill_table-requires-clause-room
fill-fill_table-requires-clause-room g t c =
    let d = g.G.Gpu.state c.args.gpu.now in
    let e = g.G.Gpu.state c.acquire.new.gpu in
    room-grown (length c.args.frames.now.pages) (memory_in d c.args.frames.now) c.args.level c.in-Node.to c.in-Node.lower (sketch_of d c.args.self.now) (sketch_of e c.acquire.new.self) c.in-Ok.ensures.grown c.requires.holds.sound.counted c.in-Node.ensures.form

pub fill-returns-in-Ok-clause-filled : goal.fill-returns-in-Ok-clause-filled
fill-returns-in-Ok-clause-filled g t c =
    let d = g.G.Gpu.state c.args.gpu.now in
    let e = g.G.Gpu.state c.acquire.new.gpu in
    let f = g.G.Gpu.state c.fill_table.new.gpu in
    let p = c.fill_table.ensures in
    filled-table (length c.args.frames.now.pages) (memory_in d c.args.frames.now) c.args.level c.args.frame c.args.index (naming c.in-Node.lower c.in-Node.to)
    (sketch_of d c.args.self.now) (sketch_of e c.acquire.new.self) (sketch_of f c.fill_table.new.self) c.requires.frame c.requires.within c.requires.absent (sym c.in-Node.ensures.is)
    (ap pages_of p.same) (ap parents_of p.same) p.enters c.in-Node.to c.in-Node.lower refl c.in-Node.ensures.form c.args.page c.requires.node c.in-Ok.ensures.grown

pub fill-returns-in-Ok-clause-keeps : goal.fill-returns-in-Ok-clause-keeps
fill-returns-in-Ok-clause-keeps g t c =
    let d = g.G.Gpu.state c.args.gpu.now in
    let e = g.G.Gpu.state c.acquire.new.gpu in
    let f = g.G.Gpu.state c.fill_table.new.gpu in
    let pins = c.acquire.new.pins in
    keeps_trans c.args.frames.now d e f c.args.self.now c.acquire.new.self c.fill_table.new.self c.args.pins.now pins pins c.in-Ok.ensures.keeps c.fill_table.ensures.keeps

pub fill-returns-in-Nothing-clause-keeps : goal.fill-returns-in-Nothing-clause-keeps
fill-returns-in-Nothing-clause-keeps g t c = keeps-none c.args.frames.now (g.G.Gpu.state c.args.gpu.now) c.args.self.now c.args.pins.now

pub fill-returns-in-Refused-clause-keeps : goal.fill-returns-in-Refused-clause-keeps
fill-returns-in-Refused-clause-keeps g t c = keeps-none c.args.frames.now (g.G.Gpu.state c.args.gpu.now) c.args.self.now c.args.pins.now
