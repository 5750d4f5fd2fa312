use Rattle.std.proofs.Common.{Result, Err, Option, ◌≡◌, ◌-◌, ◌<◌, length, get_or, sym, ap, ◌∙◌, subst, arith, true}
use Rattle.gv_entry.specs.Tables.{frame_words}
use Rattle.gv_guest.specs.Placed.{memory_in}
use Rattle.gv_sppgtt.specs.State.{sketch_of}
use Rattle.gv_sppgtt.specs.declared.tables.TableFault.{TableFault}
use Rattle.gv_sppgtt.specs.declared.tables.TableFault.TheVariants.{BadEntry}
use Rattle.gv_sppgtt.proofs.Relinked.{acquired-table}
use Rattle.gv_sppgtt.proofs.BadEntries.{bad-here, live-child, frame-words, table-is}
use Rattle.gv_sppgtt.proofs.Kept.{keeps-none}
use Rattle.gv_sppgtt.proofs.tables.Tables.acquire_entry.Goals as goal
use Rattle.gv_sppgtt.proofs.Growing.{room-grown}
use Rattle.gv_shape.proofs.Levels.{wanted-low, naming-low, above-low}
use Rattle.gv_shape.specs.Shadow.{is_live}
use Rattle.gv_sppgtt.specs.declared.tables.Child.{Child}

pub returns-in-Ok-clause-acquired : goal.returns-in-Ok-clause-acquired
returns-in-Ok-clause-acquired g c =
    let d = g.G.Gpu.state c.args.gpu.now in
    acquired-table (length c.args.frames.now.pages) (memory_in d c.args.frames.now) c.args.level c.in-Node.to c.in-Node.lower (sketch_of d c.args.self.now) (sketch_of (g.G.Gpu.state c.acquire.new.gpu) c.acquire.new.self) c.in-Node.ensures.form c.in-Ok.ensures.grown

pub returns-in-Ok-clause-room : goal.returns-in-Ok-clause-room
returns-in-Ok-clause-room g c =
    let d = g.G.Gpu.state c.args.gpu.now in
    let e = g.G.Gpu.state c.acquire.new.gpu in
    room-grown (length c.args.frames.now.pages) (memory_in d c.args.frames.now) c.args.level c.in-Node.to c.in-Node.lower (sketch_of d c.args.self.now) (sketch_of e c.acquire.new.self) c.in-Ok.ensures.grown c.requires.holds.sound.counted c.in-Node.ensures.form

same_fault : (x y : TableFault) → ◌≡◌ {A = Result (Option Child) TableFault} (Err x) (Err y) → x ≡ y
same_fault x y e = cc

pub returns-in-Err-clause-bad : goal.returns-in-Err-clause-bad
returns-in-Err-clause-bad g c is roots live =
    let d = g.G.Gpu.state c.args.gpu.now in
    let placed = c.args.frames.now in
    let m = memory_in d placed in
    let words = frame-words d placed c.args.frame c.requires.holds.stands c.requires.frame in
    let below = c.in-Node.ensures.form in
    let high = c.requires.high in
    let fault = ap (λ e. Err e) (same_fault c.in-Err.fault BadEntry is) in
    let low : c.in-Node.lower < 5 = (let l = c.in-Err.ensures.good fault in omega arith) in
    let entry = sym (wanted-low m c.args.level c.args.frame c.args.index (let f = below.four in omega arith)) ∙ sym c.in-Node.ensures.is ∙ naming-low c.in-Node.lower c.in-Node.to low in
    let table = table-is (get_or (frame_words m c.args.frame) c.args.index 0) c.args.level (length m) c.in-Node.to (omega arith) entry in
    let up = above-low c.in-Node.lower low in
    let at : c.args.level - 1 ≡ c.in-Node.lower = (let x = below.above in omega arith) in
    c.in-Err.ensures.bad fault roots
    (subst (λ l. is_live m roots l c.in-Node.to ≡ true) at (live-child m roots c.args.level c.args.frame c.args.index (omega arith) below.four live (subst (λ n. c.args.index < n) (sym words) c.requires.within) c.in-Node.to table.0 table.1 entry))

pub returns-in-Refused-clause-bad : goal.returns-in-Refused-clause-bad
returns-in-Refused-clause-bad g c is roots live =
    let d = g.G.Gpu.state c.args.gpu.now in
    let placed = c.args.frames.now in
    let m = memory_in d placed in
    let words = frame-words d placed c.args.frame c.requires.holds.stands c.requires.frame in
    let few = c.in-Refused.ensures.form in
    let high = c.requires.high in
    bad-here m roots c.args.level c.args.frame c.args.index (omega arith) few live (subst (λ n. c.args.index < n) (sym words) c.requires.within)
    (sym (wanted-low m c.args.level c.args.frame c.args.index (omega arith)) ∙ sym c.in-Refused.ensures.is)

pub acquire-requires-clause-modest : goal.acquire-requires-clause-modest
acquire-requires-clause-modest g c k f one near = c.requires.modest c.in-Node.to c.in-Node.lower c.in-Node.ensures.form k f one near

pub returns-in-Nothing-clause-keeps : goal.returns-in-Nothing-clause-keeps
returns-in-Nothing-clause-keeps g c = keeps-none c.args.frames.now (g.G.Gpu.state c.args.gpu.now) c.args.self.now c.args.pins.now

pub returns-in-Refused-clause-keeps : goal.returns-in-Refused-clause-keeps
returns-in-Refused-clause-keeps g c = keeps-none c.args.frames.now (g.G.Gpu.state c.args.gpu.now) c.args.self.now c.args.pins.now
