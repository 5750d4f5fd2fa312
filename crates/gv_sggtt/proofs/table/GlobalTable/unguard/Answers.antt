use Rattle.std.proofs.Common.{◌≡◌, ℕ, ◌<◌, ◌≤◌, List, true, false, length, sym, ap, ◌∙◌, subst, refl}
use Rattle.gv_guest.proofs.Kept.{memory-entries}
use Rattle.gv_sggtt.specs.Mirror.{Mirrors}
use Rattle.gv_sggtt.specs.Pins.{HasPins, ChangesOwnPins}
use Rattle.gv_sggtt.specs.Table.{Table, table_guarding, guards}
use Rattle.gv_sggtt.proofs.Guarded.{mirrors-guarding}
use Rattle.gv_sggtt.proofs.OwnPins.{has-pins, changes-freed}
use Rattle.gv_sggtt.proofs.Written.{some-live}
use Rattle.gv_sggtt.proofs.table.GlobalTable.unguard.Goals as goal

pub set_entries-count-requires-clause-live : goal.set_entries-count-requires-clause-live
set_entries-count-requires-clause-live g c =
    let frames : c.self.inside.entries.frames ≡ length c.args.memory.now.frames.pages = ap (λ (t : Table). t.frames) c.self.view_is ∙ sym c.requires.frames in
    some-live (g.G.Gpu.state c.args.gpu.now) c.args.memory.now.frames c.requires.stands (subst (λ n. 1 ≤ n) frames c.self.invariant.some)

pub returns-clause-mirrors : goal.returns-clause-mirrors
returns-clause-mirrors g c =
    let d = g.G.Gpu.state c.args.gpu.now in
    let e = g.G.Gpu.state c.set_entries-count.new.gpu in
    let inside = c.self.inside in
    let table : Table = record { ranges = inside.ranges; frames = inside.entries.frames; entries = inside.entries.values; guarded = inside.guarded.items } in
    let placed = c.args.memory.now.frames in
    let below = subst (λ (t : Table). c.args.frame < t.frames) (sym c.self.view_is) c.requires.within in
    let within = subst (λ n. c.args.frame < n) (sym c.self.invariant.flags) below in
    let before = subst (λ (t : Table). Mirrors d t placed) (sym c.self.view_is) c.requires.mirrors in
    mirrors-guarding d e table placed c.args.frame c.physical-entry.result false within c.set_entries-count.ensures.entries c.physical-entry.ensures before

pub returns-clause-pins : goal.returns-clause-pins
returns-clause-pins g c =
    let inside = c.self.inside in
    let table : Table = record { ranges = inside.ranges; frames = inside.entries.frames; entries = inside.entries.values; guarded = inside.guarded.items } in
    let after = table_guarding table c.args.frame false in
    let pins = c.args.memory.now.pins in
    let below = subst (λ (t : Table). c.args.frame < t.frames) (sym c.self.view_is) c.requires.within in
    let within = subst (λ n. c.args.frame < n) (sym c.self.invariant.flags) below in
    let has = subst (λ (t : Table). HasPins t pins) (sym c.self.view_is) c.requires.pinned in
    let was = subst (λ (t : Table). guards t.guarded c.args.frame ≡ true) (sym c.self.view_is) c.requires.guarded in
    subst (λ (t : Table). ChangesOwnPins t after pins c.pin_times.new.pins) c.self.view_is
    (subst (λ (now : List ℕ). ChangesOwnPins table after pins now) (sym c.pin_times.ensures)
    (changes-freed table c.args.frame false within pins has below c.set_entries-count.result refl was c.set_entries-count.ensures.count))

pub returns-clause-pinned : goal.returns-clause-pinned
returns-clause-pinned g c =
    let inside = c.self.inside in
    let table : Table = record { ranges = inside.ranges; frames = inside.entries.frames; entries = inside.entries.values; guarded = inside.guarded.items } in
    has-pins c.args.self.now (table_guarding table c.args.frame false) c.args.memory.now.pins c.pin_times.new.pins (ap (λ (t : Table). t.frames) c.self.view_is) c.requires.pinned (returns-clause-pins g c)

pub returns-clause-memory : goal.returns-clause-memory
returns-clause-memory g c =
    let d = g.G.Gpu.state c.args.gpu.now in
    let e = g.G.Gpu.state c.set_entries-count.new.gpu in
    memory-entries c.self.inside.ranges 0 d e c.args.memory.now.frames c.set_entries-count.ensures.changes c.requires.stands
